-- A run worked by hand from the rules, to which the definitions are held: a client of four, the third of them, that keeps two entries of the past
-- and lets three duties wait. Assumes nothing: these are definitions.
use Rattle.std.specs.Prelude.{◌≡◌, ℕ, Bool, true, false, List, [], ◌∷◌}
use Rattle.protocol.specs.Data.{Data, Past, Duty}
use Rattle.protocol.specs.Client.{Share, Event, duty, decided, share, block, resend, Answer, refused, does, Limits, State, new_client, after, answer, lets_now}
use Rattle.protocol.specs.Promise.{all}

-- a row: an event and what the client does, or a question and its answer
pub data Row : Type 0 where
  does_then : Event → Answer → Row
  may : ℕ → Data → Bool → Row

-- the client does what the rows say, one after the other, and its past is then this
abbrev pub Follows : Limits → State → List Row → List Past → Type 0
Follows l s [] ps = s.past ≡ ps
Follows l s (does_then e a ∷ rs) ps = (answer l s e ≡ a) × Follows l (after l s e) rs ps
Follows l s (may k d b ∷ rs) ps = (lets_now s k d ≡ b) × Follows l s rs ps

-- data by slot, block, source and target; a duty by slot and seat; a share by who, seat and data: all else is 0
abbrev pub data_with : ℕ → ℕ → ℕ → ℕ → Data
data_with k b f t = record { slot = k; committee = 0; block = b; source = f; source_root = 0; target = t; target_root = 0 }

abbrev pub duty_with : ℕ → ℕ → Duty
duty_with k seat = record { slot = k; committee = 0; seat = seat }

abbrev pub share_with : ℕ → ℕ → Data → Share
share_with who seat d = record { who = who; what = d; seat = seat }

abbrev pub third_of_four : Limits
third_of_four = record { events_can = all; clients = 4; me = 2; kept = 2; waiting = 3 }

abbrev pub nothing : Answer
nothing = does [] [] [] []

abbrev pub for_5 : Data
for_5 = data_with 5 9 0 1

abbrev pub for_7 : Data
for_7 = data_with 7 8 0 2

abbrev pub for_9 : Data
for_9 = data_with 9 3 1 3

abbrev pub for_10 : Data
for_10 = data_with 10 3 2 4

abbrev pub table : List Row
table =
    does_then (duty (duty_with 5 1)) (does [] [] (duty_with 5 1 ∷ []) [])
    ∷ (does_then (duty (duty_with 5 1)) (refused 3 0)
    ∷ (does_then (duty (duty_with 7 1)) nothing
    ∷ (does_then (share (share_with 0 1 for_5)) nothing
    ∷ (does_then (decided 7 for_7) nothing
    ∷ (does_then (decided 5 for_5) (does (share_with 2 1 for_5 ∷ []) [] (duty_with 7 1 ∷ []) [])
    ∷ (does_then (share (share_with 1 1 for_5)) nothing
    ∷ (does_then (share (share_with 1 2 for_5)) (refused 6 0)
    ∷ (does_then (share (share_with 2 1 for_5)) (does [] (for_5 ∷ []) [] [])
    ∷ (does_then (share (share_with 3 1 for_5)) (does [] (for_5 ∷ []) [] [])
    ∷ (does_then (share (share_with 3 1 for_9)) (refused 5 0)
    ∷ (does_then (share (share_with 3 1 for_7)) nothing
    ∷ (may 7 for_7 true
    ∷ (may 7 (data_with 7 8 0 1) false
    ∷ (does_then (duty (duty_with 9 0)) nothing
    ∷ (does_then (block (for_7 ∷ (for_10 ∷ []))) (does [] [] (duty_with 9 0 ∷ []) (7 ∷ []))
    ∷ (does_then (block (for_7 ∷ (data_with 7 4 0 2 ∷ []))) (refused 7 0)
    ∷ (does_then resend (does (share_with 2 1 for_5 ∷ []) [] [] [])
    ∷ (does_then (duty (duty_with 10 0)) nothing
    ∷ (does_then (decided 9 for_9) (does (share_with 2 0 for_9 ∷ []) [] [] [])
    ∷ (does_then (share (share_with 0 1 for_7)) (refused 5 0)
    ∷ (does_then (share (share_with 2 0 for_9)) nothing
    ∷ (does_then (share (share_with 1 0 for_9)) nothing
    ∷ (does_then (share (share_with 3 0 for_9)) (does [] (for_9 ∷ []) [] []) ∷ [])))))))))))))))))))))))

-- the definitions do what the table says, and the past is 1 3 and 2 4 at its end, by source and target, the largest target first
abbrev pub TableFollowed : Type 0
TableFollowed =
    Follows third_of_four new_client table (record { from = 2; to = 4 } ∷ (record { from = 1; to = 3 } ∷ []))
