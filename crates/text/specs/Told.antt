-- What is written of the entries of a row is what each impl of `Deed` says: the proofs of its law.
use Rattle.std.specs.Prelude.{◌≡◌, ℕ, zero, suc, List, ◌∷◌, map, drop, refl}
use Rattle.std.proofs.Common.{ap}
use Rattle.wire.specs.Bytes.{share_from, data_from, duty_from}
use Rattle.events.specs.Layout.{entries, number_from}
use Rattle.events.specs.Meaning.{row_shares, row_data, row_duties, row_slots}
use Rattle.events.specs.declared.row.Row.{Row}
use Rattle.text.specs.Text.{sends_text, hands_in_text, begins_text, ends_text}

-- what is written of each entry
told_each : {A : Type 0} (f : A → List ℕ) (size : ℕ) (from : List ℕ → A) (n : ℕ) (bs : List ℕ) → map f (entries size from n bs) ≡ entries size (λ b. f (from b)) n bs
unfolding entries
told_each f size from zero bs = refl
told_each f size from (suc n) bs = ap (λ ts. f (from bs) ∷ ts) (told_each f size from n (drop size bs))

-- what is written of a row, by its bytes
module _ (r : Row) where
  pub shares_told : map sends_text (row_shares r) ≡ entries 137 (λ b. sends_text (share_from b)) r.count r.bytes.now
  unfolding row_shares
  shares_told = told_each sends_text 137 share_from r.count r.bytes.now

  pub data_told : map hands_in_text (row_data r) ≡ entries 128 (λ b. hands_in_text (data_from b)) r.count r.bytes.now
  unfolding row_data
  data_told = told_each hands_in_text 128 data_from r.count r.bytes.now

  pub duties_told : map begins_text (row_duties r) ≡ entries 24 (λ b. begins_text (duty_from b)) r.count r.bytes.now
  unfolding row_duties
  duties_told = told_each begins_text 24 duty_from r.count r.bytes.now

  pub slots_told : map ends_text (row_slots r) ≡ entries 8 (λ b. ends_text (number_from b)) r.count r.bytes.now
  unfolding row_slots
  slots_told = told_each ends_text 8 number_from r.count r.bytes.now
