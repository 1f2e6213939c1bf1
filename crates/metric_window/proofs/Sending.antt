-- A window may go to another thread. A ring of items may, on the heap, where its items may.
use denote.RattleType.{RattleType}
use denote.Param.Send.{IsSend, sendable}
use Rattle.std.proofs.Crossing.{crosses, frees}
use Rattle.std.specs.contracts.alloc.Global as heap
use Rattle.std.specs.contracts.impls.GlobalAllocator.TheImpl.{ghosts}
use Rattle.circular_buffer.proofs.Crosses as buffers
use Rattle.circular_buffer.specs.contracts.cells.Cells as cells
use Rattle.circular_buffer.specs.contracts.cells.Deed as deed
use Rattle.metric_window.specs.contracts.kept_rows.Window as window

pub cells_send : (R : RattleType) → IsSend R → IsSend (cells.the_row R)
cells_send = buffers.Cells-send

pub deed_send : (R : RattleType) → IsSend (deed.the_row R heap.the_row ghosts)
deed_send R = buffers.Deed-send R heap.the_row ghosts frees

pub window_send : IsSend window.the_row
window_send = search (cells_send, deed_send, sendable, crosses) depth 40 fits 100000
