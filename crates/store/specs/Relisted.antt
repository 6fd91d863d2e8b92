-- A client with other entries in one of its lists. A definition, and what it is for each list: lemmas with their proofs, which the code names. Assumes nothing.
use Rattle.std.proofs.Common.{◌≡◌, ℕ, ◌≤◌, Bool, true, false, cond, List, [], ◌∷◌, map, length, get_or, set, refl, ap, ◌∙◌, ap₂, arith}
use Rattle.std.proofs.lemmas.List.{length-map}
use Rattle.protocol.specs.Data as defined
use Rattle.protocol.specs.Client as client
use Rattle.rows.specs.Rows.{laid, kept}
use Rattle.rows.proofs.Laws.{kept_length}
use Rattle.past.specs.Past.{row_of}
use Rattle.stored.specs.Stored.{Stored, with_past, with_queue, with_active, with_ahead, with_own}
use Rattle.stored.specs.Numbers.{header, duty_numbers, data_numbers, share_numbers, listed, regions}
use Rattle.stored.specs.Kept.{Well}
use Rattle.layout.specs.Memory.{Holds}
use Rattle.layout.specs.declared.memory.Memory.{Memory}
use Rattle.layout.specs.declared.region.Region.{Region}
use Rattle.layout.specs.declared.region.Region.TheVariants.{Past, Queue, Active, Ahead, Own}
use Rattle.layout.proofs.Places.{place}
use Rattle.lists.specs.Lists.{counted}
use Rattle.store.specs.Rooms.{room_of}
use Rattle.store.specs.Store.{only_active, only_ahead, only_own}

-- a client that has these rows, w numbers wide, in a region, and all else as another
pub record Relisted (w : ℕ) (r : Region) (rs : List (List ℕ)) (t t' : Stored) : Type 0 where
  pub well : Well t'
  pub sized : t'.sizes ≡ t.sizes
  pub is : set (regions t) (place r) (counted w (room_of r t.sizes) rs) ≡ regions t'

-- what a call makes of a memory: the layout and the lent slice stay, and a list has the rows that f makes of the client that it held
pub record Relists (before after : Memory) (w : ℕ) (r : Region) (f : Stored → List (List ℕ)) : Type 0 where
  pub layout : after.layout ≡ before.layout
  pub lent : after.numbers.ghost_name ≡ before.numbers.ghost_name
  pub holds : (t t' : Stored) → Holds before t → Relisted w r (f t) t t' → Holds after t'

-- the same where something is asked of the client that it held
pub record RelistsIf (before after : Memory) (w : ℕ) (r : Region) (P : Stored → Type 0) (f : Stored → List (List ℕ)) : Type 0 where
  pub layout : after.layout ≡ before.layout
  pub lent : after.numbers.ghost_name ≡ before.numbers.ghost_name
  pub holds : (t t' : Stored) → Holds before t → P t → Relisted w r (f t) t t' → Holds after t'

counted_map : {A : Type 0} (w n : ℕ) (numbers : A → List ℕ) (xs : List A) → counted w n (map numbers xs) ≡ listed w n numbers xs
unfolding listed
counted_map w n numbers xs = ap (λ k. k ∷ laid w n (map numbers xs)) (length-map xs numbers)

pub past_relisted : (ps : List defined.Past) (t : Stored) → Well t → length ps ≤ t.sizes.kept → Relisted 2 Past (map row_of ps) t (with_past ps t)
unfolding regions header
past_relisted ps t w few =
    record {
      well =
          record { sizes = w.sizes; past = few; queue = w.queue; active = w.active; ahead = w.ahead; own = w.own; banks = w.banks; cells = w.cells };
      sized = refl;
      is = ap (set (regions t) 1) (counted_map 2 t.sizes.kept row_of ps);
    }

pub queue_relisted : (ys : List defined.Duty) (t : Stored) → Well t → length ys ≤ t.sizes.waiting → Relisted 3 Queue (map duty_numbers ys) t (with_queue ys t)
unfolding regions header
queue_relisted ys t w few =
    record {
      well =
          record { sizes = w.sizes; past = w.past; queue = few; active = w.active; ahead = w.ahead; own = w.own; banks = w.banks; cells = w.cells };
      sized = refl;
      is = ap (set (regions t) 2) (counted_map 3 t.sizes.waiting duty_numbers ys);
    }

pub active_relisted : (ys : List defined.Duty) (t : Stored) → Well t → length ys ≤ t.sizes.waiting → Relisted 3 Active (map duty_numbers ys) t (with_active ys t)
unfolding regions header
active_relisted ys t w few =
    record {
      well =
          record { sizes = w.sizes; past = w.past; queue = w.queue; active = few; ahead = w.ahead; own = w.own; banks = w.banks; cells = w.cells };
      sized = refl;
      is = ap (set (regions t) 3) (counted_map 3 t.sizes.waiting duty_numbers ys);
    }

pub ahead_relisted : (ds : List defined.Data) (t : Stored) → Well t → length ds ≤ t.sizes.waiting → Relisted 16 Ahead (map data_numbers ds) t (with_ahead ds t)
unfolding regions header
ahead_relisted ds t w few =
    record {
      well =
          record { sizes = w.sizes; past = w.past; queue = w.queue; active = w.active; ahead = few; own = w.own; banks = w.banks; cells = w.cells };
      sized = refl;
      is = ap (set (regions t) 4) (counted_map 16 t.sizes.waiting data_numbers ds);
    }

pub own_relisted : (ss : List client.Share) (t : Stored) → Well t → length ss ≤ t.sizes.waiting → Relisted 18 Own (map share_numbers ss) t (with_own ss t)
unfolding regions header
own_relisted ss t w few =
    record {
      well =
          record { sizes = w.sizes; past = w.past; queue = w.queue; active = w.active; ahead = w.ahead; own = few; banks = w.banks; cells = w.cells };
      sized = refl;
      is = ap (set (regions t) 5) (counted_map 18 t.sizes.waiting share_numbers ss);
    }

-- the rows that pass are those of the entries that do
pub map_kept : {A B : Type 0} (f : A → B) (test : B → Bool) (pass : A → Bool) → ((x : A) → test (f x) ≡ pass x) → (xs : List A) → kept test (map f xs) ≡ map f (kept pass xs)
unfolding kept
map_kept f test pass same [] = refl
map_kept f test pass same (x ∷ xs) =
    ap₂ (λ b t. cond b (f x ∷ t) t) (same x) (map_kept f test pass same xs)
    ∙ elim (pass x) as (λ b. cond b (f x ∷ map f (kept pass xs)) (map f (kept pass xs)) ≡ map f (cond b (x ∷ kept pass xs) (kept pass xs))) [ true ↦ refl | false ↦ refl ]

-- the same, by rows that are equal
pub relisted_by : (w : ℕ) (r : Region) (rs rs' : List (List ℕ)) (t t' : Stored) → rs ≡ rs' → Relisted w r rs' t t' → Relisted w r rs t t'
relisted_by w r rs rs' t t' e x =
    record { well = x.well; sized = x.sized; is = ap (λ v. set (regions t) (place r) (counted w (room_of r t.sizes) v)) e ∙ x.is }

-- just what is for slots that pass
pub only_active_relisted : (p : ℕ → Bool) (t : Stored) → Well t → Relisted 3 Active (kept (λ row. p (get_or row 0 0)) (map duty_numbers t.active)) t (only_active p t)
unfolding duty_numbers
only_active_relisted p t w =
    let few : length (kept (λ y. p y.slot) t.active) ≤ t.sizes.waiting = omega (arith, w.active, kept_length (λ (y : defined.Duty). p y.slot) t.active) in
    relisted_by 3 Active _ _ t (only_active p t) (map_kept duty_numbers (λ row. p (get_or row 0 0)) (λ y. p y.slot) (λ y. refl) t.active)
    (active_relisted (kept (λ y. p y.slot) t.active) t w few)

pub only_ahead_relisted : (p : ℕ → Bool) (t : Stored) → Well t → Relisted 16 Ahead (kept (λ row. p (get_or row 0 0)) (map data_numbers t.ahead)) t (only_ahead p t)
unfolding data_numbers
only_ahead_relisted p t w =
    let few : length (kept (λ d. p d.slot) t.ahead) ≤ t.sizes.waiting = omega (arith, w.ahead, kept_length (λ (d : defined.Data). p d.slot) t.ahead) in
    relisted_by 16 Ahead _ _ t (only_ahead p t) (map_kept data_numbers (λ row. p (get_or row 0 0)) (λ d. p d.slot) (λ d. refl) t.ahead)
    (ahead_relisted (kept (λ d. p d.slot) t.ahead) t w few)

pub only_own_relisted : (p : ℕ → Bool) (t : Stored) → Well t → Relisted 18 Own (kept (λ row. p (get_or row 2 0)) (map share_numbers t.own)) t (only_own p t)
unfolding share_numbers data_numbers
only_own_relisted p t w =
    let few : length (kept (λ s. p s.what.slot) t.own) ≤ t.sizes.waiting = omega (arith, w.own, kept_length (λ (s : client.Share). p s.what.slot) t.own) in
    relisted_by 18 Own _ _ t (only_own p t) (map_kept share_numbers (λ row. p (get_or row 2 0)) (λ s. p s.what.slot) (λ s. refl) t.own)
    (own_relisted (kept (λ s. p s.what.slot) t.own) t w few)
