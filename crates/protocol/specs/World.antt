-- Clients of one group, the lines between them, those that are bad (Ethereum: the adversary), and everything that can happen.
-- Assumes nothing: these are definitions.
use Rattle.std.specs.Prelude.{◌≡◌, ℕ, zero, suc, ◌+◌, ◌<◌, Bool, true, false, not, ◌&&◌, ◌||◌, ◌⊎◌, List, [], ◌∷◌, ◌++◌, ◌==◌, nat_le}
use Rattle.protocol.specs.Data.{pick, Data, same, Duty, quorum}
use Rattle.protocol.specs.Client.{Share, Event, duty, decided, share, block, resend, garbled, Answer, refused, does, Limits}

-- a client as a program: its memory, which is numbers; what an event leaves there; what it does then; and what it lets the deciding come to
pub record Keeper : Type 0 where
  pub opened : Limits → List ℕ
  pub called : List ℕ → Event → List ℕ
  pub says : List ℕ → Event → Answer
  pub lets : List ℕ → ℕ → Data → Bool

-- a group: how many clients, which of them are bad, and what all are opened with
pub record Group : Type 0 where
  pub events_can : ℕ → Bool
  pub clients : ℕ
  pub bad : ℕ → Bool
  pub kept : ℕ
  pub waiting : ℕ

-- what client i of a group is opened with
abbrev pub limits : Group → ℕ → Limits
limits g i = record { events_can = g.events_can; clients = g.clients; me = i; kept = g.kept; waiting = g.waiting }

-- of the first n numbers, how many pass a test
unfoldable pub how_many : ℕ → (ℕ → Bool) → ℕ
how_many zero p = 0
how_many (suc n) p = pick (p n) (suc (how_many n p)) (how_many n p)

-- the world: what happened to each client, the last first; all shares ever sent; what the deciding has come to for each slot, none or one
pub record World : Type 0 where
  pub seen : ℕ → List Event
  pub sent : List Share
  pub verdict : ℕ → List Data

abbrev pub new_world : World
new_world = record { seen = λ i. []; sent = []; verdict = λ k. [] }

-- a client's memory after events, the last first
unfoldable pub memory : Keeper → Limits → List Event → List ℕ
memory f l [] = f.opened l
memory f l (e ∷ es) = f.called (memory f l es) e

-- the shares that an answer sends to all
unfoldable pub sends : Answer → List Share
sends (refused j k) = []
sends (does ss ds ys ks) = ss

-- an event comes to client i, and what it sends then is sent
abbrev pub happens_at : Keeper → Group → World → ℕ → Event → World
happens_at f g w i e =
    record {
      seen = λ j. pick (j == i) (e ∷ w.seen i) (w.seen j);
      sent = w.sent ++ sends (f.says (memory f (limits g i) (w.seen i)) e);
      verdict = w.verdict;
    }

-- whether a client has let, at some moment so far, the deciding for slot k come to d
unfoldable pub let_ever : Keeper → Limits → List Event → ℕ → Data → Bool
let_ever f l [] k d = f.lets (memory f l []) k d
let_ever f l (e ∷ es) k d = f.lets (memory f l (e ∷ es)) k d || let_ever f l es k d

-- the deciding may come to d for slot k, if so many of the good clients let it that with all the bad ones they are a quorum
abbrev pub may_decide : Keeper → Group → World → ℕ → Data → Bool
may_decide f g w k d =
    nat_le (quorum g.clients) (how_many g.clients (λ i. not (g.bad i) && let_ever f (limits g i) (w.seen i) k d) + how_many g.clients g.bad)

-- who signed d, by what was sent; a whole attestation of d can be put together, by anybody, when a quorum did
unfoldable pub signed_by : ℕ → Data → List Share → Bool
signed_by i d [] = false
signed_by i d (s ∷ ss) = (s.who == i && same s.what d) || signed_by i d ss

abbrev pub whole : Group → World → Data → Bool
whole g w d = nat_le (quorum g.clients) (how_many g.clients (λ i. signed_by i d w.sent))

unfoldable pub all_whole : Group → World → List Data → Bool
all_whole g w [] = true
all_whole g w (d ∷ ds) = whole g w d && all_whole g w ds

-- a share is one of these
unfoldable pub In : Share → List Share → Type 0
In s [] = ⊥
In s (x ∷ xs) = (s ≡ x) ⊎ In s xs

-- a client of the group that isn't bad
abbrev pub good : Group → ℕ → Type 0
good g i = (i < g.clients) × (g.bad i ≡ false)

-- everything that can happen, in any order, to good clients: duties, in whatever order; what the deciding has come to; a share that was sent comes, now or late, again and again, or never;
-- blocks that have what is whole; resending; bytes that are no event. The deciding comes to something. A bad client sends whatever it likes in its own name
pub data Lived (f : Keeper) (g : Group) : World → Type 0 where
  new : Lived f g new_world
  on_duty : {w : World} (i : ℕ) (y : Duty) → Lived f g w → good g i → Lived f g (happens_at f g w i (duty y))
  on_decided : {w : World} (i k : ℕ) (d : Data) → Lived f g w → good g i → w.verdict k ≡ d ∷ [] → Lived f g (happens_at f g w i (decided k d))
  on_share : {w : World} (i : ℕ) (s : Share) → Lived f g w → good g i → In s w.sent → Lived f g (happens_at f g w i (share s))
  on_block : {w : World} (i : ℕ) (ds : List Data) → Lived f g w → good g i → all_whole g w ds ≡ true → Lived f g (happens_at f g w i (block ds))
  on_resend : {w : World} (i : ℕ) → Lived f g w → good g i → Lived f g (happens_at f g w i resend)
  on_garbled : {w : World} (i n : ℕ) → Lived f g w → good g i → Lived f g (happens_at f g w i (garbled n))
  decides : {w : World} (k : ℕ) (d : Data) → Lived f g w → w.verdict k ≡ [] → may_decide f g w k d ≡ true →
      Lived f g (record { seen = w.seen; sent = w.sent; verdict = λ j. pick (j == k) (d ∷ []) (w.verdict j) })
  bad_sends : {w : World} (s : Share) → Lived f g w → g.bad s.who ≡ true →
      Lived f g (record { seen = w.seen; sent = w.sent ++ (s ∷ []); verdict = w.verdict })
