-- The numbers of the header that change. Assumes nothing: these are definitions.
use Rattle.std.specs.Prelude.{ℕ}
use Rattle.stored.specs.Stored.{Stored, with_at_hand, with_latest, with_after}
use Rattle.layout.specs.declared.fields.Field.{Field}
use Rattle.layout.specs.declared.fields.Field.TheVariants.{AtHand, Latest, After}

-- where each stands, what it is, and a client with another
abbrev pub field_place : Field → ℕ
field_place AtHand = 5
field_place Latest = 6
field_place After = 7

abbrev pub field_of : Field → Stored → ℕ
field_of AtHand t = t.at_hand
field_of Latest t = t.latest
field_of After t = t.after

abbrev pub with_field : Field → ℕ → Stored → Stored
with_field AtHand v t = with_at_hand v t
with_field Latest v t = with_latest v t
with_field After v t = with_after v t
