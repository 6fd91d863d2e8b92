-- How many entries the list in a region has room for. Assumes nothing: this is a definition.
use Rattle.std.specs.Prelude.{ℕ}
use Rattle.stored.specs.Stored.{Sizes}
use Rattle.layout.specs.declared.region.Region.{Region}
use Rattle.layout.specs.declared.region.Region.TheVariants.{Past, Queue, Active, Ahead, Own, Marks, Cells}

abbrev pub room_of : Region → Sizes → ℕ
room_of Past z = z.kept
room_of Queue z = z.waiting
room_of Active z = z.waiting
room_of Ahead z = z.waiting
room_of Own z = z.waiting
room_of Marks z = z.waiting
room_of Cells z = z.waiting
