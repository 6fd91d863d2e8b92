-- What each list of a client holds in its region, and what is read there. Assumes nothing, and there is nothing to believe: these are lemmas with their proofs, which the code names.
use Rattle.std.proofs.Common.{◌≡◌, ℕ, zero, suc, ◌<◌, ◌≤◌, List, [], ◌∷◌, map, length, get_or, take, drop, sym, refl, ap, ◌∙◌, arith}
use Rattle.std.specs.List.{AllByRecursion}
use Rattle.std.proofs.lemmas.List.{length-map, take-map, drop-map}
use Rattle.protocol.specs.Data as defined
use Rattle.protocol.specs.Client as client
use Rattle.wire.specs.Meaning.{entry_of, duty_of, data_of, share_of}
use Rattle.wire.specs.declared.values.Entry.{Entry}
use Rattle.wire.specs.declared.values.Duty.{Duty}
use Rattle.wire.specs.declared.values.Data.{Data}
use Rattle.wire.specs.declared.values.Share.{Share}
use Rattle.rows.specs.Rows.{laid}
use Rattle.past.specs.Past.{entry_of as entry_in, row_of}
use Rattle.stored.specs.Stored.{Stored}
use Rattle.stored.specs.Numbers.{duty_numbers, duty_in, data_numbers, data_in, share_numbers, share_in, listed}
use Rattle.stored.specs.Kept.{Well}
use Rattle.stored.proofs.Entries.{entry_back, duty_back, data_back, share_back, duty_length, data_length, share_length}
use Rattle.stored.proofs.Listed.{wide_map}
use Rattle.lists.specs.Lists.{Region}

module _ {A : Type 0} (w : ℕ) (numbers : A → List ℕ) where
  -- a list that is laid out holds the rows of its entries
  pub listed_holds : (n : ℕ) → ((x : A) → length (numbers x) ≡ w) → (xs : List A) → length xs ≤ n → Region w n (map numbers xs) (listed w n numbers xs)
  unfolding listed
  listed_holds n long xs few =
      record {
        wide = wide_map w numbers long xs;
        few = omega (arith, length-map xs numbers);
        is = ap (λ k. k ∷ laid w n (map numbers xs)) (sym (length-map xs numbers));
      }

module _ {A : Type 0} (numbers : A → List ℕ) (xs : List A) (i : ℕ) where
  -- the row at a place is that of the entry there
  row_there : (rows : List (List ℕ)) → rows ≡ take 1 (drop i (map numbers xs)) → rows ≡ map numbers (take 1 (drop i xs))
  row_there rows e = e ∙ ap (take 1) (drop-map numbers i xs) ∙ take-map numbers 1 (drop i xs)

  one : (ys : List A) (row : List ℕ) (x : A) (from : List ℕ → A) → ((y : A) → from (numbers y) ≡ y) → row ∷ [] ≡ map numbers ys → x ≡ from row → x ∷ [] ≡ ys
  one [] row x from back e is = absurd cc
  one (y ∷ []) row x from back e is =
      let same : row ≡ numbers y = cc in
      ap (λ v. v ∷ []) (is ∙ ap from same ∙ back y)
  one (y ∷ (v ∷ vs)) row x from back e is =
      absurd cc

  no_row : (ys : List A) → [] ≡ map numbers ys → [] ≡ ys
  no_row [] e = refl
  no_row (y ∷ ys) e =
      absurd cc

  pub read_there : (row : List ℕ) (x : A) (from : List ℕ → A) → ((y : A) → from (numbers y) ≡ y) → row ∷ [] ≡ take 1 (drop i (map numbers xs)) → x ≡ from row → x ∷ [] ≡ take 1 (drop i xs)
  read_there row x from back e is = one (take 1 (drop i xs)) row x from back (row_there (row ∷ []) e) is

  pub none_there : [] ≡ take 1 (drop i (map numbers xs)) → [] ≡ take 1 (drop i xs)
  none_there e = no_row (take 1 (drop i xs)) (row_there [] e)

-- what each region holds
pub past_held : (t : Stored) → Well t → Region 2 t.sizes.kept (map row_of t.past) (listed 2 t.sizes.kept row_of t.past)
past_held t w = listed_holds 2 row_of t.sizes.kept (λ p. refl) t.past w.past

pub queue_held : (t : Stored) → Well t → Region 3 t.sizes.waiting (map duty_numbers t.queue) (listed 3 t.sizes.waiting duty_numbers t.queue)
queue_held t w = listed_holds 3 duty_numbers t.sizes.waiting duty_length t.queue w.queue

pub active_held : (t : Stored) → Well t → Region 3 t.sizes.waiting (map duty_numbers t.active) (listed 3 t.sizes.waiting duty_numbers t.active)
active_held t w = listed_holds 3 duty_numbers t.sizes.waiting duty_length t.active w.active

pub ahead_held : (t : Stored) → Well t → Region 16 t.sizes.waiting (map data_numbers t.ahead) (listed 16 t.sizes.waiting data_numbers t.ahead)
ahead_held t w = listed_holds 16 data_numbers t.sizes.waiting data_length t.ahead w.ahead

pub own_held : (t : Stored) → Well t → Region 18 t.sizes.waiting (map share_numbers t.own) (listed 18 t.sizes.waiting share_numbers t.own)
own_held t w = listed_holds 18 share_numbers t.sizes.waiting share_length t.own w.own

-- what is read at a place
pub past_read : (t : Stored) (i : ℕ) (row : List ℕ) (e : Entry) → row ∷ [] ≡ take 1 (drop i (map row_of t.past)) → entry_of e ≡ entry_in row → entry_of e ∷ [] ≡ take 1 (drop i t.past)
past_read t i row e = read_there row_of t.past i row (entry_of e) entry_in entry_back

pub past_none : (t : Stored) (i : ℕ) → [] ≡ take 1 (drop i (map row_of t.past)) → [] ≡ take 1 (drop i t.past)
past_none t i = none_there row_of t.past i

pub duty_read : (ys : List defined.Duty) (i : ℕ) (row : List ℕ) (y : Duty) → row ∷ [] ≡ take 1 (drop i (map duty_numbers ys)) → duty_of y ≡ duty_in row → duty_of y ∷ [] ≡ take 1 (drop i ys)
duty_read ys i row y = read_there duty_numbers ys i row (duty_of y) duty_in duty_back

pub duty_none : (ys : List defined.Duty) (i : ℕ) → [] ≡ take 1 (drop i (map duty_numbers ys)) → [] ≡ take 1 (drop i ys)
duty_none ys i = none_there duty_numbers ys i

pub data_read : (t : Stored) (i : ℕ) (row : List ℕ) (d : Data) → row ∷ [] ≡ take 1 (drop i (map data_numbers t.ahead)) → data_of d ≡ data_in row → data_of d ∷ [] ≡ take 1 (drop i t.ahead)
data_read t i row d = read_there data_numbers t.ahead i row (data_of d) data_in data_back

pub data_none : (t : Stored) (i : ℕ) → [] ≡ take 1 (drop i (map data_numbers t.ahead)) → [] ≡ take 1 (drop i t.ahead)
data_none t i = none_there data_numbers t.ahead i

-- a signer that is a byte is one in its row
signer_byte : (row : List ℕ) (i : ℕ) (ss : List client.Share) → row ∷ [] ≡ map share_numbers (take 1 (drop i ss)) → AllByRecursion (λ (x : client.Share). x.who < 256) ss → get_or row 0 0 < 256
unfolding share_numbers
signer_byte row zero [] e all = absurd cc
signer_byte row (suc i) [] e all = absurd cc
signer_byte row zero (x ∷ ss) e all =
    let same : row ≡ x.who ∷ (x.seat ∷ data_numbers x.what) = cc in
    omega (arith, all.0, ap (λ r. get_or r 0 0) same)
signer_byte row (suc i) (x ∷ ss) e all = signer_byte row i ss e all.1

pub share_read : (t : Stored) (i : ℕ) (row : List ℕ) (s : Share) → row ∷ [] ≡ take 1 (drop i (map share_numbers t.own)) → (get_or row 0 0 < 256 → share_of s ≡ share_in row) → AllByRecursion (λ (x : client.Share). x.who < 256) t.own → share_of s ∷ [] ≡ take 1 (drop i t.own)
share_read t i row s e is all =
    read_there share_numbers t.own i row (share_of s) share_in share_back e (is (signer_byte row i t.own (row_there share_numbers t.own i (row ∷ []) e) all))

pub share_none : (t : Stored) (i : ℕ) → [] ≡ take 1 (drop i (map share_numbers t.own)) → AllByRecursion (λ (x : client.Share). x.who < 256) t.own → [] ≡ take 1 (drop i t.own)
share_none t i e all = none_there share_numbers t.own i e
