-- The header's numbers in a client's memory.
use Rattle.std.proofs.Common.{◌≡◌, ℕ, List, get_or, set, refl, ap, ◌∙◌}
use Rattle.rows.specs.Rows.{flat}
use Rattle.stored.specs.Stored.{Sizes, Stored}
use Rattle.stored.specs.Numbers.{header, regions, encode}
use Rattle.stored.specs.Kept.{Well, Held}
use Rattle.layout.specs.Fields.{field_place, field_of, with_field}
use Rattle.layout.specs.declared.fields.Field.{Field}
use Rattle.layout.specs.declared.fields.Field.TheVariants.{AtHand, Latest, After}

field_there : (f : Field) (t : Stored) → get_or (encode t) (field_place f) 0 ≡ field_of f t
unfolding encode regions header flat
field_there AtHand t = refl
field_there Latest t = refl
field_there After t = refl

pub field_read : (f : Field) (k : ℕ) (z : Sizes) (xs : List ℕ) (t : Stored) → k ≡ field_place f → Held z xs t → get_or xs k 0 ≡ field_of f t
field_read f k z xs t e h = ap (λ ys. get_or ys k 0) h.is ∙ ap (λ i. get_or (encode t) i 0) e ∙ field_there f t

-- another number there is another client
field_set : (f : Field) (v : ℕ) (t : Stored) → set (encode t) (field_place f) v ≡ encode (with_field f v t)
unfolding encode regions header flat
field_set AtHand v t = refl
field_set Latest v t = refl
field_set After v t = refl

same_sizes : (f : Field) (v : ℕ) (t : Stored) → (with_field f v t).sizes ≡ t.sizes
same_sizes AtHand v t = refl
same_sizes Latest v t = refl
same_sizes After v t = refl

same_well : (f : Field) (v : ℕ) (t : Stored) → Well t → Well (with_field f v t)
same_well AtHand v t w = record { sizes = w.sizes; past = w.past; queue = w.queue; active = w.active; ahead = w.ahead; own = w.own; banks = w.banks; cells = w.cells }
same_well Latest v t w = record { sizes = w.sizes; past = w.past; queue = w.queue; active = w.active; ahead = w.ahead; own = w.own; banks = w.banks; cells = w.cells }
same_well After v t w = record { sizes = w.sizes; past = w.past; queue = w.queue; active = w.active; ahead = w.ahead; own = w.own; banks = w.banks; cells = w.cells }

pub field_write : (f : Field) (k v : ℕ) (z : Sizes) (xs : List ℕ) (t : Stored) → k ≡ field_place f → Held z xs t → Held z (set xs k v) (with_field f v t)
field_write f k v z xs t e h =
    record {
      sized = same_sizes f v t ∙ h.sized;
      well = same_well f v t h.well;
      is = ap (λ ys. set ys k v) h.is ∙ ap (λ i. set (encode t) i v) e ∙ field_set f v t;
    }
