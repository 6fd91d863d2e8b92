-- A list as its region of the whole memory is lent, and written anew.
use Rattle.std.specs.declared.ops.Range.{Range}
use Rattle.std.proofs.Common.{◌≡◌, ℕ, ◌-◌, List, take, drop, set, sym, ap, ◌∙◌, subst}
use borrow.Rule.Slice.PartMut.{put_mid}
use Rattle.stored.specs.Stored.{Sizes, Stored}
use Rattle.stored.specs.Numbers.{regions}
use Rattle.stored.specs.Kept.{Held}
use Rattle.layout.specs.Layout.{Spans}
use Rattle.layout.specs.Memory.{content}
use Rattle.layout.specs.declared.region.Region.{Region}
use Rattle.layout.proofs.Places.{place, shown, written}
use Rattle.lists.specs.Lists.{counted, Region as Holds}
use Rattle.store.specs.Rooms.{room_of}
use Rattle.store.specs.Relisted.{Relisted}

-- what is done with the rows of a list, as its region is lent, is done with the client's
pub relist : (w n : ℕ) (r : Region) (z : Sizes) (s : Range ℕ) (xs now part : List ℕ) (t t' : Stored) (rs rs' : List (List ℕ)) → n ≡ room_of r z → Spans z r s → now ≡ take (s.end - s.start) (drop s.start xs) → Held z xs t → Holds w (room_of r t.sizes) rs (content r t) → (Holds w n rs now → part ≡ counted w n rs') → Relisted w r rs' t t' → Held z (put_mid s.start (s.end - s.start) xs part) t'
relist w n r z s xs now part t t' rs rs' en p is h held done x =
    let room : n ≡ room_of r t.sizes = en ∙ ap (room_of r) (sym h.sized) in
    let there : Holds w n rs now =
    subst (λ (k : ℕ). Holds w k rs now) (sym room) (subst (λ (ys : List ℕ). Holds w (room_of r t.sizes) rs ys) (sym (is ∙ shown z r s xs t p h)) held) in
    written z r s xs t p h part t' x.well x.sized (ap (set (regions t) (place r)) (done there ∙ ap (λ k. counted w k rs') room) ∙ x.is)

-- the same with a row that is put into as many as there is room for
pub relist_with : (w n : ℕ) (r : Region) (z : Sizes) (s : Range ℕ) (xs now part row row' : List ℕ) (t t' : Stored) (rs : List (List ℕ)) (made : ℕ → List ℕ → List (List ℕ)) → n ≡ room_of r z → Spans z r s → now ≡ take (s.end - s.start) (drop s.start xs) → row ≡ row' → Held z xs t → Holds w (room_of r t.sizes) rs (content r t) → (Holds w n rs now → part ≡ counted w n (made n row)) → Relisted w r (made (room_of r t.sizes) row') t t' → Held z (put_mid s.start (s.end - s.start) xs part) t'
relist_with w n r z s xs now part row row' t t' rs made en p is er h held done x =
    let room : n ≡ room_of r t.sizes = en ∙ ap (room_of r) (sym h.sized) in
    relist w n r z s xs now part t t' rs (made (room_of r t.sizes) row') en p is h held
    (λ q. done q ∙ ap (counted w n) (ap (λ k. made k row) room ∙ ap (made (room_of r t.sizes)) er)) x
