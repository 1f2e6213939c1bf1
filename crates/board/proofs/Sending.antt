-- A publisher and a reader may go to another thread, and so may what is told. Each type by the types of its fields, so that no search goes through all of them.
use denote.RattleType.{RattleType}
use denote.Param.Send.{IsSend, IsSync, AllSend, struct_send, recorded_send, view_send, sendable}
use denote.Struct.Declared.{fields, shape}
use denote.Struct.Struct.{Struct}
use Rattle.std.proofs.Crossing.{crosses, frees}
use Rattle.std.specs.contracts.alloc.Global as heap
use Rattle.std.specs.contracts.impls.GlobalAllocator.TheImpl.{ghosts}
use Rattle.atomic_table.proofs.shared.Seat.TheSendSync as seat
use Rattle.atomic_table.proofs.shared.Shared.TheSendSync as shared
use Rattle.atomic_table.proofs.send_lease.SendLease.TheSendSync as lease
use Rattle.left_right.proofs.part.Part.TheSendSync as part
use Rattle.left_right.proofs.part.Deed.TheSendSync as deed
use Rattle.left_right.specs.contracts.part.Deed as deed_type
use Rattle.logbook.proofs.word.Word.TheSendSync as word
use Rattle.logbook.proofs.tokens.Seen.TheSendSync as seen
use Rattle.board.specs.contracts.numbers.Numbers as numbers
use Rattle.board.specs.contracts.sheet.Sheet as sheet
use Rattle.board.specs.contracts.told.KnownTurns as told
use Rattle.board.specs.contracts.reader.Reader as reader
use Rattle.board.specs.contracts.publisher.Publisher as publisher
use Rattle.board.specs.contracts.publisher.Publisher.TheInside as inside

numbers_send : IsSend numbers.the_row
numbers_send = search (sendable, crosses) depth 40 fits 100000

numbers_sync : IsSync numbers.the_row
numbers_sync = search (sendable, crosses) depth 40 fits 100000

sheet_send : IsSend sheet.the_row
sheet_send = search (sendable, crosses) depth 40 fits 100000

pub told_send : IsSend told.the_row
told_send = search (numbers_send, numbers_sync, seen.the_send, sendable, crosses) depth 40 fits 100000

pub told_sync : IsSync told.the_row
told_sync = search (numbers_send, numbers_sync, seen.the_sync, sendable, crosses) depth 40 fits 100000

pub reader_send : IsSend reader.the_row
reader_send = search (sheet_send, told_send, told_sync, part.the_send, seat.the_send, shared.the_send, shared.the_sync, lease.the_send, lease.the_sync, sendable, crosses) depth 40 fits 100000

heap_send : IsSend heap.the_row
heap_send = search (sendable, crosses) depth 40 fits 100000

deed_send : IsSend (deed_type.the_row told.the_row heap.the_row ghosts)
deed_send = deed.the_send told.the_row heap.the_row ghosts told_send heap_send frees

-- part by part, in the order of the publisher's fields
inside_send : (R : RattleType) → IsSend R → IsSend (inside.the_row R)
inside_send R sent =
    let all : AllSend (fields (inside.the_type R)) =
    (search (word.the_send, sendable), (told_send, (search (told_send, told_sync, part.the_send, deed_send, seat.the_send, shared.the_send, shared.the_sync, lease.the_send, lease.the_sync, sendable, crosses) depth 40 fits 100000, (sent, tt)))) in
    let T = inside.the_type R in
    recorded_send (Struct (shape T)) T.D T.to T.to_one (struct_send (shape T) all)

pub publisher_send : (R : RattleType) → IsSend R → IsSend (publisher.the_row R)
publisher_send R sent = view_send _ _ _ _ _ (inside_send R sent)
