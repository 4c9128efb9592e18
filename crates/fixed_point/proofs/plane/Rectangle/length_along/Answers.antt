use Rattle.fixed_point.proofs.Products.{column_component, row_component}
use Rattle.fixed_point.proofs.plane.Rectangle.length_along.Goals as goal

pub product-requires-clause-component : goal.product-requires-clause-component
product-requires-clause-component c = column_component _ _ c.requires.unit_vector

pub product-requires-2-clause-component : goal.product-requires-2-clause-component
product-requires-2-clause-component c = row_component _ _ c.requires.unit_vector
