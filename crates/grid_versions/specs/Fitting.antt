-- Whether a shape fits a map, as a test that computes.
use Rattle.std.specs.Prelude.{Bool, ◌&&◌}
use Rattle.nav_types.specs.declared.limits.TheConstants.{MAX_HALF_SIDE}
use Rattle.nav_types.specs.declared.cells.Size.{Size}
use Rattle.fixed_point.specs.Plane.{is_unit_vector, is_on_axis, is_up_to}
use Rattle.obstruction_shapes.specs.declared.shapes.Shape.{Shape}
use Rattle.obstruction_shapes.specs.Shapes.{turned_of}

-- the shape fits a map of this size: its middle lies on it, and its sides and its unit vector are in their limits
unfoldable pub fits : Size → Shape → Bool
fits size shape = is_on_axis size.w (turned_of shape).x && is_on_axis size.h (turned_of shape).z
    && is_up_to MAX_HALF_SIDE (turned_of shape).hw && is_up_to MAX_HALF_SIDE (turned_of shape).hh
    && is_unit_vector (turned_of shape).ux (turned_of shape).uz
