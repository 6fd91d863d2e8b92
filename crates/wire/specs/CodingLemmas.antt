-- Codings: for numbers of any width, for two codings one after the other, and for a record in place of its fields.
use Rattle.std.specs.Prelude.{◌≡◌, ℕ, zero, suc, ◌+◌, ◌*◌, ◌/◌, ◌%◌, ◌^◌, ◌<◌, ◌≤◌, List, [], ◌∷◌, ◌++◌, length, take, drop, refl}
use Rattle.std.proofs.Common.{sym, ap, ◌∙◌, append_assoc, arith, length-append, length-drop, length-take, take-take, take-add, take_at, drop_at, length-take-le}
use Rattle.std.proofs.Math.Nat.{pow-le-pow_right}
use Rattle.std.proofs.ByRecursion.{All-append, All-take, All-drop}
use Rattle.std.proofs.lemmas.List.{drop-take}
use Rattle.wire.specs.Bytes.{AllBytes, le_bytes, le_value}
use Rattle.wire.specs.Coding.{Coding}

-- numbers of any width
pub length_le_bytes : (k n : ℕ) → length (le_bytes k n) ≡ k
unfolding le_bytes
length_le_bytes zero n = refl
length_le_bytes (suc k) n = ap suc (length_le_bytes k (n / 256))

pub small_le_bytes : (k n : ℕ) → AllBytes (le_bytes k n)
unfolding le_bytes
small_le_bytes zero n = tt
small_le_bytes (suc k) n = (omega arith, small_le_bytes k (n / 256))

pub le_value_le_bytes : (k n : ℕ) → n < 256 ^ k → le_value (le_bytes k n) ≡ n
unfolding le_bytes le_value
le_value_le_bytes zero n h = omega arith
le_value_le_bytes (suc k) n h =
    let less : n / 256 < 256 ^ k = omega arith in
    let e : le_value (le_bytes k (n / 256)) ≡ n / 256 = le_value_le_bytes k (n / 256) less in
    omega arith

pub le_bytes_le_value : (bs : List ℕ) → AllBytes bs → le_bytes (length bs) (le_value bs) ≡ bs
unfolding le_bytes le_value
le_bytes_le_value [] h = refl
le_bytes_le_value (b ∷ bs) h =
    let low : (b + 256 * le_value bs) % 256 ≡ b = omega (arith, h.0) in
    let high : (b + 256 * le_value bs) / 256 ≡ le_value bs = omega (arith, h.0) in
    rw (low, high, le_bytes_le_value bs h.1)

pub le_value_lt : (bs : List ℕ) → AllBytes bs → le_value bs < 256 ^ length bs
unfolding le_value
le_value_lt [] h = omega arith
le_value_lt (b ∷ bs) h =
    let more : b + 256 * le_value bs < 256 ^ suc (length bs) = omega (arith, h.0, le_value_lt bs h.1) in
    more

pub numbers : (k : ℕ) → Coding ℕ k (le_bytes k) (λ bs. le_value (take k bs)) (λ n. n < 256 ^ k)
numbers k =
    record {
      long = length_le_bytes k;
      small = small_le_bytes k;
      back = λ n rest h. rw (take_at (le_bytes k n) rest k (length_le_bytes k n)) (le_value_le_bytes k n h);
      again = λ bs h l. again bs h l;
      fitting = λ bs h. fits bs h;
      front = λ bs. ap le_value (sym (take-take k k bs (omega arith)));
    }
  where
    again : (bs : List ℕ) → AllBytes bs → k ≤ length bs → le_bytes k (le_value (take k bs)) ≡ take k bs
    again bs h l = rw (length-take-le k bs l) at (le_bytes_le_value (take k bs) (All-take (λ b. b < 256) k bs h))

    fits : (bs : List ℕ) → AllBytes bs → le_value (take k bs) < 256 ^ k
    fits bs h =
        let below : le_value (take k bs) < 256 ^ length (take k bs) = le_value_lt (take k bs) (All-take (λ b. b < 256) k bs h) in
        let less : length (take k bs) ≤ k = simp length-take (omega arith) in
        omega (arith, pow-le-pow_right {n = 256} (omega arith) less)

-- two values one after the other
module _ {A B : Type 0} {k m : ℕ} {f : A → List ℕ} {g : List ℕ → A} {P : A → Type 0} {f' : B → List ℕ} {g' : List ℕ → B} {P' : B → Type 0} where
  pub both : Coding A k f g P → Coding B m f' g' P'
      → Coding (A × B) (k + m) (λ p. f p.0 ++ f' p.1) (λ bs. (g bs, g' (drop k bs))) (λ p. P p.0 × P' p.1)
  both c d =
      record {
        long = λ p. rw length-append (rw (c.long p.0, d.long p.1));
        small = λ p. All-append (λ b. b < 256) (f p.0) (f' p.1) (c.small p.0) (d.small p.1);
        back = λ p rest h. back p rest h;
        again = λ bs h l. again bs h l;
        fitting = λ bs h. (c.fitting bs h, d.fitting (drop k bs) (All-drop (λ b. b < 256) k bs h));
        front = λ bs. front bs;
      }
    where
      back : (p : A × B) (rest : List ℕ) → P p.0 × P' p.1 → ◌≡◌ {A = A × B} (g ((f p.0 ++ f' p.1) ++ rest), g' (drop k ((f p.0 ++ f' p.1) ++ rest))) p
      back p rest h =
          let at = drop_at (f p.0) (f' p.1 ++ rest) k (c.long p.0) in
          rw (append_assoc, at, c.back p.0 (f' p.1 ++ rest) h.0, d.back p.1 rest h.1)

      again : (bs : List ℕ) → AllBytes bs → k + m ≤ length bs → f (g bs) ++ f' (g' (drop k bs)) ≡ take (k + m) bs
      again bs h l =
          let left : k ≤ length bs = omega arith in
          let right : m ≤ length (drop k bs) = simp length-drop (omega arith) in
          rw (take-add k m bs, c.again bs h left, d.again (drop k bs) (All-drop (λ b. b < 256) k bs h) right)

      front : (bs : List ℕ) → ◌≡◌ {A = A × B} (g bs, g' (drop k bs)) (g (take (k + m) bs), g' (drop k (take (k + m) bs)))
      front bs =
          let inside : take k (take (k + m) bs) ≡ take k bs = take-take k (k + m) bs (omega arith) in
          let first : g (take (k + m) bs) ≡ g bs = c.front (take (k + m) bs) ∙ ap g inside ∙ sym (c.front bs) in
          let second : g' (drop k (take (k + m) bs)) ≡ g' (drop k bs) = ap g' (drop-take k m bs) ∙ sym (d.front (drop k bs)) in
          rw (first, second)

-- a record in place of its fields: `to` takes it apart and `of` puts it together
module _ {A B : Type 0} {k : ℕ} {f : A → List ℕ} {g : List ℕ → A} {P : A → Type 0} where
  pub as_record : Coding A k f g P → (to : B → A) (of : A → B) (f' : B → List ℕ) (g' : List ℕ → B) (P' : B → Type 0)
      → ((b : B) → of (to b) ≡ b) → ((a : A) → to (of a) ≡ a) → ((b : B) → f' b ≡ f (to b)) → ((bs : List ℕ) → g' bs ≡ of (g bs))
      → ((b : B) → P' b → P (to b)) → ((a : A) → P a → P' (of a)) → Coding B k f' g' P'
  as_record c to of f' g' P' there here same_bytes same_value fit unfit =
      record {
        long = λ b. rw (same_bytes b) (c.long (to b));
        small = λ b. rw (same_bytes b) (c.small (to b));
        back = λ b rest h. rw (same_bytes b, same_value, c.back (to b) rest (fit b h)) (there b);
        again = λ bs h l. rw (same_bytes (g' bs), same_value bs, here (g bs)) (c.again bs h l);
        fitting = λ bs h. rw (same_value bs) (unfit (g bs) (c.fitting bs h));
        front = λ bs. rw (same_value bs, same_value (take k bs)) (ap of (c.front bs));
      }
