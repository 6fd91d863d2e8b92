-- What requests stand for. Assumes nothing: these are definitions.
use Rattle.std.specs.Prelude.{map, vec_items}
use Rattle.protocol.specs.Client.{duty, decided, share, block, resend}
use Rattle.wire.specs.Meaning.{data_of, duty_of, share_of}
use Rattle.text.specs.Text.{Asked, event, may, past, raw}
use Rattle.text.specs.declared.requests.Request.{Request}
use Rattle.text.specs.declared.requests.Request.TheVariants.{OnDuty, Decided, ShareCame, Block, Resend, May, Past as PastAsked, Bytes}

unfoldable pub request_of : Request → Asked
request_of (OnDuty y) = event (duty (duty_of y))
request_of (Decided k d) = event (decided k (data_of d))
request_of (ShareCame s) = event (share (share_of s))
request_of (Block ds) = event (block (map data_of (vec_items ds)))
request_of Resend = event resend
request_of (May k d) = may k (data_of d)
request_of PastAsked = past
request_of (Bytes bs) = raw (vec_items bs)
