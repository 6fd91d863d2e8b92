-- The worked table: each row is computed from the definitions.
use Rattle.std.proofs.Common.{refl}
use Rattle.protocol.specs.Data.{pick, clashes, least_to, least_from, unsafe, into, first_of}
use Rattle.protocol.specs.Client.{event_number, ahead_of, has_slot, without, by_slot, all_by_slot, above, other_for, twice, not_for, shares_not_for, ends, learned, begin_or_wait, next, begun, own_with, for_some, from_him, heard, signers, good_fields, turned_by, place, by_decided, sends_decided, still_ahead, gone, duty_gone, stepped, begun_if, doing, some_valid}
use Rattle.protocol.specs.Table.{TableFollowed}

pub table_followed : TableFollowed
unfolding pick clashes least_to least_from unsafe into first_of event_number ahead_of has_slot without by_slot all_by_slot above other_for twice not_for shares_not_for ends learned begin_or_wait next begun own_with for_some from_him heard signers good_fields turned_by place by_decided sends_decided still_ahead gone duty_gone stepped begun_if doing some_valid
table_followed = (refl, (refl, (refl, (refl, (refl, (refl, (refl, (refl, (refl, (refl, (refl, (refl, (refl, (refl, (refl, (refl, (refl, (refl, (refl, (refl, (refl, (refl, (refl, (refl, refl))))))))))))))))))))))))
