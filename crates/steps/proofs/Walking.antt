-- The walk of what is ahead beside the queue: where it stands, and what each turn does.
use Rattle.std.proofs.Common.{◌≡◌, ℕ, zero, suc, ◌+◌, ◌-◌, ◌<◌, ◌≤◌, List, [], ◌∷◌, map, length, take, drop, sym, refl, ap, ◌∙◌, subst, arith}
use Rattle.std.specs.List.{AllByRecursion}
use Rattle.std.proofs.lemmas.List.{drop_all, length-map}
use Rattle.protocol.specs.Data.{Data, Duty}
use Rattle.protocol.specs.Client.{slots}
use Rattle.stored.specs.Stored.{Sizes, Stored, with_queue}
use Rattle.stored.specs.Numbers.{duty_numbers}
use Rattle.stored.specs.Kept.{Held}
use Rattle.keeper.specs.Ready.{Ascending, duty_slots}
use Rattle.keeper.specs.Step.{learnt}
use Rattle.keeper.proofs.ReadyLists.{rises_without}
use Rattle.steps.specs.Orderly.{SlotFits, Orderly}
use Rattle.steps.specs.Queue.{skipped}
use Rattle.steps.proofs.Apart.{none_between, larger_behind, found_there, front_stays}
use Rattle.steps.proofs.Skipping.{skip_one, skip_none, skip_empty}

-- data for a slot below all of these duties'
abbrev Before : List Duty → Data → Type 0
Before ys d = AllByRecursion (λ (y : Duty). d.slot < y.slot) ys

-- the first i that are ahead are before all that waits; slots are in order; so many wait
pub record Walk (i left : ℕ) (t : Stored) : Type 0 where
  pub wait : AllByRecursion SlotFits t.queue
  pub queue : Ascending (duty_slots t.queue)
  pub ahead : Ascending (slots t.ahead)
  pub passed : AllByRecursion (Before t.queue) (take i t.ahead)
  pub count : left ≡ length t.queue

-- memory holds a client from which the walk goes on to the goal
pub record OnTheWay (z : Sizes) (xs : List ℕ) (i left : ℕ) (goal : Stored) : Type 0 where
  pub client : Stored
  pub held : Held z xs client
  pub walk : Walk i left client
  pub same : skipped client.queue client ≡ goal

pub walk_starts : (z : Sizes) (xs : List ℕ) (left : ℕ) (t : Stored) → Held z xs t → Orderly t → left ≡ length t.queue → OnTheWay z xs 0 left (skipped t.queue t)
walk_starts z xs left t h r count =
    record { client = t; held = h; walk = record { wait = r.waiting; queue = r.queue; ahead = r.ahead; passed = tt; count = count }; same = refl }

-- as many wait as there are rows
pub rows_wait : (rows : List (List ℕ)) (ys : List Duty) → rows ≡ map duty_numbers ys → length rows ≡ length ys
rows_wait rows ys e = ap length e ∙ length-map ys duty_numbers

-- a list by its first, and what is behind it
first_of_list : {A : Type 0} (x : A) (xs : List A) → x ∷ [] ≡ take 1 (drop 0 xs) → xs ≡ x ∷ drop 1 xs
first_of_list x [] e = absurd cc
first_of_list x (y ∷ ys) e = let same : x ≡ y = cc in ap (λ v. v ∷ ys) (sym same)

none_in_list : {A : Type 0} (xs : List A) → [] ≡ take 1 xs → xs ≡ []
none_in_list [] e = refl
none_in_list (x ∷ xs) e = absurd cc

-- what is before all of these is before each
before_first : (y : Duty) (ys : List Duty) (ds : List Data) → AllByRecursion (Before (y ∷ ys)) ds → AllByRecursion (λ (d : Data). d.slot < y.slot) ds
before_first y ys [] h = tt
before_first y ys (d ∷ ds) h = (h.0.0, before_first y ys ds h.1)

before_rest : (y : Duty) (ys : List Duty) (ds : List Data) → AllByRecursion (Before (y ∷ ys)) ds → AllByRecursion (Before ys) ds
before_rest y ys [] h = tt
before_rest y ys (d ∷ ds) h = (h.0.1, before_rest y ys ds h.1)

before_none : (ds : List Data) → AllByRecursion (Before []) ds
before_none [] = tt
before_none (d ∷ ds) = (tt, before_none ds)

-- a queue whose first is after some data has all after it
after_first : (k : ℕ) (y : Duty) (ys : List Duty) → Ascending (duty_slots (y ∷ ys)) → k < y.slot → AllByRecursion (λ (x : Duty). k < x.slot) (y ∷ ys)
after_first k y ys up h = (h, further ys up.0)
  where
    further : (zs : List Duty) → AllByRecursion (λ j. y.slot < j) (duty_slots zs) → AllByRecursion (λ (x : Duty). k < x.slot) zs
    further [] a = tt
    further (x ∷ zs) a = (omega (arith, a.0), further zs a.1)

-- one more entry has been passed
passed_more : (P : Data → Type 0) (i : ℕ) (d : Data) (ds : List Data) → d ∷ [] ≡ take 1 (drop i ds) → AllByRecursion P (take i ds) → P d → AllByRecursion P (take (i + 1) ds)
passed_more P i d ds e h p = subst (λ n. AllByRecursion P (take n ds)) (sym next) (go i ds e h)
  where
    next : i + 1 ≡ suc i
    next = omega arith

    go : (i : ℕ) (ds : List Data) → d ∷ [] ≡ take 1 (drop i ds) → AllByRecursion P (take i ds) → AllByRecursion P (take (suc i) ds)
    go zero [] e h = tt
    go zero (x ∷ ds) e h = let same : d ≡ x = cc in (subst P same p, tt)
    go (suc i) [] e h = tt
    go (suc i) (x ∷ ds) e h = (h.0, go i ds e h.1)

inside : (i : ℕ) (d : Data) (ds : List Data) → d ∷ [] ≡ take 1 (drop i ds) → i ≤ length ds
inside zero ds d e = omega arith
inside (suc i) d [] e = absurd cc
inside (suc i) d (x ∷ ds) e = let h = inside i d ds e in omega arith

-- parts of the queue that is y and what is behind it
module _ (z : Sizes) (xs : List ℕ) (i left : ℕ) (goal : Stored) (w : OnTheWay z xs i left goal) where
  -- nothing waits
  pub walk_empty : [] ≡ take 1 (drop 0 w.client.queue) → Held z xs goal
  walk_empty e = subst (Held z xs) (sym (skip_empty w.client (none_in_list w.client.queue e)) ∙ w.same) w.held

  module _ (y : Duty) (first : y ∷ [] ≡ take 1 (drop 0 w.client.queue)) where
    q : w.client.queue ≡ y ∷ drop 1 w.client.queue
    q = first_of_list y w.client.queue first

    low : AllByRecursion (λ (d : Data). d.slot < y.slot) (take i w.client.ahead)
    low = before_first y (drop 1 w.client.queue) (take i w.client.ahead) (subst (λ (ys : List Duty). AllByRecursion (Before ys) (take i w.client.ahead)) q w.walk.passed)

    pub walk_fits : y.slot < 18446744073709551615
    walk_fits =
        let all : AllByRecursion SlotFits (y ∷ drop 1 w.client.queue) = subst (λ (ys : List Duty). AllByRecursion SlotFits ys) q w.walk.wait in
        omega (arith, all.0)

    pub walk_some : 0 < length w.client.queue
    walk_some = omega (arith, ap length q)

    stops : AllByRecursion (λ (d : Data). y.slot < d.slot) (drop i w.client.ahead) → Held z xs goal
    stops high =
        subst (Held z xs) (sym (skip_none y (drop 1 w.client.queue) w.client q (none_between y.slot i w.client.ahead low high)) ∙ w.same) w.held

    -- all that is ahead has been passed
    pub walk_passed : [] ≡ take 1 (drop i w.client.ahead) → Held z xs goal
    walk_passed e = stops (subst (λ (ds : List Data). AllByRecursion (λ (d : Data). y.slot < d.slot) ds) (sym (none_in_list (drop i w.client.ahead) e)) tt)

    module _ (d : Data) (there : d ∷ [] ≡ take 1 (drop i w.client.ahead)) where
      -- the next that is ahead is after the first that waits
      pub walk_stops : y.slot < d.slot → Held z xs goal
      walk_stops h = stops (larger_behind y.slot i d w.client.ahead w.walk.ahead (sym there) h)

      -- it is before it, and is passed
      pub walk_passes : d.slot < y.slot → OnTheWay z xs (i + 1) left goal
      walk_passes h =
          let up : Ascending (duty_slots (y ∷ drop 1 w.client.queue)) = subst (λ (ys : List Duty). Ascending (duty_slots ys)) q w.walk.queue in
          let behind : Before w.client.queue d = subst (λ (ys : List Duty). Before ys d) (sym q) (after_first d.slot y (drop 1 w.client.queue) up h) in
          record {
            client = w.client;
            held = w.held;
            walk =
                record {
                  wait = w.walk.wait;
                  queue = w.walk.queue;
                  ahead = w.walk.ahead;
                  passed = passed_more (Before w.client.queue) i d w.client.ahead there w.walk.passed behind;
                  count = w.walk.count;
                };
            same = w.same;
          }

      -- it is for the same slot, and both go
      pub walk_learns : (ys : List ℕ) → d.slot ≡ y.slot → 0 < left → Held z ys (with_queue (drop 1 w.client.queue) (learnt (d ∷ []) y w.client)) → OnTheWay z ys i (left - 1) goal
      unfolding learnt
      walk_learns ys same some held =
          let c : Stored = w.client in
          let rest : List Duty = drop 1 c.queue in
          let found = found_there y.slot d same i c.ahead low (sym there) in
          let all : AllByRecursion SlotFits (y ∷ rest) = subst (λ (zs : List Duty). AllByRecursion SlotFits zs) q w.walk.wait in
          let up : Ascending (duty_slots (y ∷ rest)) = subst (λ (zs : List Duty). Ascending (duty_slots zs)) q w.walk.queue in
          let passed : AllByRecursion (Before (y ∷ rest)) (take i c.ahead) = subst (λ (zs : List Duty). AllByRecursion (Before zs) (take i c.ahead)) q w.walk.passed in
          record {
            client = with_queue rest (learnt (d ∷ []) y c);
            held = held;
            walk =
                record {
                  wait = all.1;
                  queue = up.1;
                  ahead = rises_without y.slot c.ahead w.walk.ahead;
                  passed =
                      subst (λ (zs : List Data). AllByRecursion (Before rest) zs) (sym (front_stays y.slot i c.ahead low (inside i d c.ahead there)))
                      (before_rest y rest (take i c.ahead) passed);
                  count = omega (arith, w.walk.count, ap length q);
                };
            same = sym (skip_one y rest d c q found.1 found.0) ∙ w.same;
          }

  -- nothing is left: whatever else is ahead is passed
  pub walk_on : left ≡ 0 → OnTheWay z xs (i + 1) left goal
  walk_on e =
      let none : w.client.queue ≡ [] = none_in_list w.client.queue (nil w.client.queue (omega (arith, w.walk.count))) in
      record {
        client = w.client;
        held = w.held;
        walk =
            record {
              wait = w.walk.wait;
              queue = w.walk.queue;
              ahead = w.walk.ahead;
              passed = subst (λ (ys : List Duty). AllByRecursion (Before ys) (take (i + 1) w.client.ahead)) (sym none) (before_none (take (i + 1) w.client.ahead));
              count = w.walk.count;
            };
        same = w.same;
      }
    where
      nil : (ys : List Duty) → length ys ≡ 0 → [] ≡ take 1 ys
      nil [] e = refl
      nil (y ∷ ys) e = absurd (omega arith)

  -- the walk is at its end: as many have been passed as may be ahead
  pub walk_ends : z.waiting ≤ i → Held z xs goal
  walk_ends far =
      let c : Stored = w.client in
      let most : length c.ahead ≤ i = omega (arith, w.held.well.ahead, ap (λ (v : Sizes). v.waiting) w.held.sized) in
      by_queue c.queue refl (drop_all i c.ahead most)
    where
      by_queue : (ys : List Duty) → w.client.queue ≡ ys → drop i w.client.ahead ≡ [] → Held z xs goal
      by_queue [] e none = walk_empty (ap (take 1) (sym e))
      by_queue (y ∷ ys) e none = walk_passed y (ap (take 1) (sym e)) (ap (take 1) (sym none))
