-- What it is to code values as a fixed number of bytes, and that numbers, data, duties and shares are coded so. Assumes nothing: these are definitions and statements.
use Rattle.std.specs.Prelude.{◌≡◌, ℕ, ◌^◌, ◌<◌, ◌≤◌, true, List, ◌++◌, length, take}
use Rattle.protocol.specs.Data.{Data, Duty}
use Rattle.protocol.specs.Client.{Share, duty, share}
use Rattle.protocol.specs.Promise.{carried, readable}
use Rattle.wire.specs.Bytes.{AllBytes, le_bytes, le_value, data_bytes, duty_bytes, share_bytes, data_from, duty_from, share_from}

-- every value has as many bytes as the size says; a value that fits is read back from them, whatever follows; bytes that are read and written again are the same ones;
-- what is read fits; and only the bytes at the front are read
pub record Coding (A : Type 0) (size : ℕ) (bytes : A → List ℕ) (from : List ℕ → A) (fits : A → Type 0) : Type 0 where
  pub long : (a : A) → length (bytes a) ≡ size
  pub small : (a : A) → AllBytes (bytes a)
  pub back : (a : A) (rest : List ℕ) → fits a → from (bytes a ++ rest) ≡ a
  pub again : (bs : List ℕ) → AllBytes bs → size ≤ length bs → bytes (from bs) ≡ take size bs
  pub fitting : (bs : List ℕ) → AllBytes bs → fits (from bs)
  pub front : (bs : List ℕ) → from bs ≡ from (take size bs)

-- a number below 256 ^ k, in k bytes
abbrev pub NumbersReadBack : Type 0
NumbersReadBack = (k : ℕ) → Coding ℕ k (le_bytes k) (λ bs. le_value (take k bs)) (λ n. n < 256 ^ k)

-- data, a duty and a share that an event can carry
abbrev pub DataReadsBack : Type 0
DataReadsBack = Coding Data 128 data_bytes data_from (λ d. carried d ≡ true)

abbrev pub DutyReadsBack : Type 0
DutyReadsBack = Coding Duty 24 duty_bytes duty_from (λ y. readable (duty y) ≡ true)

abbrev pub ShareReadsBack : Type 0
ShareReadsBack = Coding Share 137 share_bytes share_from (λ s. readable (share s) ≡ true)
