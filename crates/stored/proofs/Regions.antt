-- A client's memory is its regions, one after another: what it says of its sizes, how long each region is, and that the client is read back.
use Rattle.std.proofs.Common.{◌≡◌, ℕ, ◌*◌, List, [], ◌∷◌, map, length, get_or, sym, refl, ap, ◌∙◌, ap₂, arith, take_at, drop_at}
use Rattle.rows.specs.Rows.{flat}
use Rattle.protocol.specs.Data.{Data, Past, Duty}
use Rattle.protocol.specs.Client.{Share}
use Rattle.past.specs.Past.{entry_of, row_of}
use Rattle.stored.specs.Stored.{Bank, Sizes, Stored}
use Rattle.stored.specs.Numbers.{duty_numbers, duty_in, data_numbers, data_in, share_numbers, share_in, listed_in, banks_in, header, region_sizes, needed, regions, encode, cut, sizes_in, region, decode}
use Rattle.stored.specs.Kept.{Well, ReadsBack, HasItsSize}
use Rattle.stored.proofs.Entries.{duty_length, data_length, share_length, entry_back, duty_back, data_back, share_back}
use Rattle.stored.proofs.Parts.{start, before, start_before, length_at, whole_length}
use Rattle.stored.proofs.Listed.{listed_length, listed_back, marks_length, cells_length, banks_back}

-- parts are cut out again by their lengths
cut_flat : (ps : List (List ℕ)) → cut (map length ps) (flat ps) ≡ ps
unfolding cut flat
cut_flat [] = refl
cut_flat (p ∷ ps) =
    ap₂ ◌∷◌ (take_at p (flat ps) (length p) refl) (ap (cut (map length ps)) (drop_at p (flat ps) (length p) refl) ∙ cut_flat ps)

-- two banks for each duty that may wait, of a cell for each client
all_cells : (clients waiting n : ℕ) → n ≡ 2 * waiting → 18 * clients * n ≡ 36 * (clients * waiting)
all_cells clients waiting n e = rw e (omega arith)

-- how long the regions are
pub regions_length : (t : Stored) → Well t → map length (regions t) ≡ region_sizes t.sizes
unfolding regions region_sizes header
regions_length t w =
    let n : ℕ = t.sizes.waiting in
    let past = listed_length 2 t.sizes.kept row_of (λ p. refl) t.past w.past in
    let queue = listed_length 3 n duty_numbers duty_length t.queue w.queue in
    let active = listed_length 3 n duty_numbers duty_length t.active w.active in
    let ahead = listed_length 16 n data_numbers data_length t.ahead w.ahead in
    let own = listed_length 18 n share_numbers share_length t.own w.own in
    let banks = marks_length t.banks ∙ w.banks in
    let cells =
    cells_length t.sizes.clients t.banks w.cells ∙ all_cells t.sizes.clients n (length t.banks) w.banks
    in
    cc

-- where each begins, and how long it is
pub region_start : (t : Stored) (j : ℕ) → Well t → start (regions t) j ≡ before (region_sizes t.sizes) j
region_start t j w = start_before (regions t) j ∙ ap (λ ks. before ks j) (regions_length t w)

pub region_length : (t : Stored) (j : ℕ) → Well t → length (get_or (regions t) j []) ≡ get_or (region_sizes t.sizes) j 0
region_length t j w = length_at (regions t) j ∙ ap (λ ks. get_or ks j 0) (regions_length t w)

-- what memory says of its sizes, and each of its regions
pub sizes_back : (t : Stored) → sizes_in (encode t) ≡ t.sizes
unfolding encode regions header flat
sizes_back t = refl

head_back : (t : Stored) → (get_or (encode t) 5 0 ≡ t.at_hand) × (get_or (encode t) 6 0 ≡ t.latest) × (get_or (encode t) 7 0 ≡ t.after)
unfolding encode regions header flat
head_back t = (refl, refl, refl)

pub region_back : (t : Stored) (i : ℕ) → Well t → region i (encode t) ≡ get_or (regions t) i []
unfolding region encode
region_back t i w =
    ap (λ z. get_or (cut (region_sizes z) (flat (regions t))) i []) (sizes_back t)
    ∙ ap (λ ks. get_or (cut ks (flat (regions t))) i []) (sym (regions_length t w))
    ∙ ap (λ rs. get_or rs i []) (cut_flat (regions t))

-- a client by what memory says of each of its parts
decode_is : (xs : List ℕ) {z : Sizes} {at_hand latest after : ℕ} {past : List Past} {queue active : List Duty} {ahead : List Data} {own : List Share} {banks : List Bank} → sizes_in xs ≡ z → get_or xs 5 0 ≡ at_hand → get_or xs 6 0 ≡ latest → get_or xs 7 0 ≡ after → listed_in 2 entry_of (region 1 xs) ≡ past → listed_in 3 duty_in (region 2 xs) ≡ queue → listed_in 3 duty_in (region 3 xs) ≡ active → listed_in 16 data_in (region 4 xs) ≡ ahead → listed_in 18 share_in (region 5 xs) ≡ own → banks_in (sizes_in xs).clients (region 6 xs) (region 7 xs) ≡ banks → decode xs ≡ record { sizes = z; at_hand = at_hand; latest = latest; after = after; past = past; queue = queue; active = active; ahead = ahead; own = own; banks = banks }
unfolding decode
decode_is xs z at_hand latest after past queue active ahead own banks = cc

pub reads_back : ReadsBack
unfolding regions
reads_back t w =
    let n : ℕ = t.sizes.waiting in
    decode_is (encode t) (sizes_back t) (head_back t).0 (head_back t).1 (head_back t).2
    (ap (listed_in 2 entry_of) (region_back t 1 w) ∙ listed_back 2 t.sizes.kept row_of (λ p. refl) t.past w.past entry_of entry_back)
    (ap (listed_in 3 duty_in) (region_back t 2 w) ∙ listed_back 3 n duty_numbers duty_length t.queue w.queue duty_in duty_back)
    (ap (listed_in 3 duty_in) (region_back t 3 w) ∙ listed_back 3 n duty_numbers duty_length t.active w.active duty_in duty_back)
    (ap (listed_in 16 data_in) (region_back t 4 w) ∙ listed_back 16 n data_numbers data_length t.ahead w.ahead data_in data_back)
    (ap (listed_in 18 share_in) (region_back t 5 w) ∙ listed_back 18 n share_numbers share_length t.own w.own share_in share_back)
    (ap (λ z. banks_in z.clients (region 6 (encode t)) (region 7 (encode t))) (sizes_back t)
    ∙ ap₂ (banks_in t.sizes.clients) (region_back t 6 w) (region_back t 7 w)
    ∙ banks_back t.sizes.clients t.banks w.cells)

-- it has as many numbers as its regions together
encode_length : (t : Stored) → Well t → length (encode t) ≡ needed t.sizes
unfolding encode regions region_sizes
encode_length t w = whole_length (regions t) ∙ region_start t 8 w ∙ omega arith

pub has_its_size : HasItsSize
has_its_size t w = (encode_length t w, omega arith)
