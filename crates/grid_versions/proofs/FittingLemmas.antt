-- The test of fitting holds exactly where the shape fits.
use Rattle.std.proofs.Common.{◌≡◌, Bool, ◌&&◌, sym, Decides}
use Rattle.std.specs.Result.{OkIff}
use Rattle.std.specs.Prelude.{Result, Ok, Err, is_ok}
use Rattle.std.proofs.lemmas.Bool.{false_from_ne_true}
use Rattle.std.proofs.lemmas.Bool.Decides.{Decides-like, Decides-and}
use Rattle.nav_types.specs.declared.cells.Size.{Size}
use Rattle.obstruction_shapes.specs.declared.shapes.Shape.{Shape}
use Rattle.fixed_point.specs.Plane.{is_unit_vector, is_on_axis, is_up_to}
use Rattle.fixed_point.proofs.PlaneTests.{Decides-is_on_axis, Decides-is_up_to, Decides-is_unit_vector}
use Rattle.obstruction_shapes.specs.Shapes.{turned_of, FitsMap}
use Rattle.grid_versions.specs.Fitting.{fits}

pub fits_decides : (size : Size) (shape : Shape) → Decides (fits size shape) (FitsMap size shape)
unfolding fits
fits_decides size shape =
    let s = turned_of shape in
    let column = is_on_axis size.w s.x in
    let row = is_on_axis size.h s.z in
    let width = is_up_to 256 s.hw in
    let height = is_up_to 256 s.hh in
    let vector = is_unit_vector s.ux s.uz in
    Decides-like _
    (λ all. record { column = all.0.0.0.0; row = all.0.0.0.1; width = all.0.0.1; height = all.0.1; unit_vector = all.1 })
    (λ is. ((((is.column, is.row), is.width), is.height), is.unit_vector))
    (Decides-and (column && row && width && height) vector
    (Decides-and (column && row && width) height
    (Decides-and (column && row) width
    (Decides-and column row (Decides-is_on_axis size.w s.x) (Decides-is_on_axis size.h s.z))
    (Decides-is_up_to 256 s.hw))
    (Decides-is_up_to 256 s.hh))
    (Decides-is_unit_vector s.ux s.uz))

-- what is answered only where a shape fits, is answered exactly where the test holds
pub ok_by_test : {A B P : Type 0} (answer : Result A B) (value : A) (test : Bool) → OkIff answer P value → Decides test P → is_ok answer ≡ test
ok_by_test (Ok x) value test is decides = sym (decides.1 is.0)
ok_by_test (Err e) value test is decides = sym (false_from_ne_true test (λ holds. is (decides.0 holds)))
