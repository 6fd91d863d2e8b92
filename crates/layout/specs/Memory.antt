-- A client's memory as it is lent: which client it holds, and what a call makes of it. Assumes nothing: these are definitions.
use Rattle.std.specs.Prelude.{◌≡◌, ℕ, List}
use Rattle.stored.specs.Stored.{Stored}
use Rattle.past.specs.Past.{row_of}
use Rattle.stored.specs.Numbers.{duty_numbers, data_numbers, share_numbers, listed, marks, bank_cells}
use Rattle.stored.specs.Kept.{Held}
use Rattle.layout.specs.Layout.{sizes}
use Rattle.layout.specs.declared.region.Region.{Region}
use Rattle.layout.specs.declared.region.Region.TheVariants.{Past, Queue, Active, Ahead, Own, Marks, Cells}
use Rattle.layout.specs.declared.memory.Memory.{Memory}
use Rattle.layout.specs.declared.memory.View.{View}

-- a memory holds a client, and a view shows one
abbrev pub Holds : Memory → Stored → Type 0
Holds m t = Held (sizes m.layout) m.numbers.now t

abbrev pub Shows : View → Stored → Type 0
Shows v t = Held (sizes v.layout) v.numbers.now t

-- what a client has in a region
abbrev pub content : Region → Stored → List ℕ
content Past t = listed 2 t.sizes.kept row_of t.past
content Queue t = listed 3 t.sizes.waiting duty_numbers t.queue
content Active t = listed 3 t.sizes.waiting duty_numbers t.active
content Ahead t = listed 16 t.sizes.waiting data_numbers t.ahead
content Own t = listed 18 t.sizes.waiting share_numbers t.own
content Marks t = marks t.banks
content Cells t = bank_cells t.banks

-- what a call makes of a memory: the layout and the lent slice stay, and whatever client it held, it holds what f makes of that one
pub record Turns (before after : Memory) (f : Stored → Stored) : Type 0 where
  pub layout : after.layout ≡ before.layout
  pub lent : after.numbers.ghost_name ≡ before.numbers.ghost_name
  pub holds : (t : Stored) → Holds before t → Holds after (f t)

-- the same where something is asked of the client that it held
pub record TurnsIf (before after : Memory) (P : Stored → Type 0) (f : Stored → Stored) : Type 0 where
  pub layout : after.layout ≡ before.layout
  pub lent : after.numbers.ghost_name ≡ before.numbers.ghost_name
  pub holds : (t : Stored) → Holds before t → P t → Holds after (f t)
