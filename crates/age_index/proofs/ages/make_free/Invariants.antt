use Rattle.std.proofs.Common.{◌≡◌, ℕ, ◌+◌, slice_index_or, vec_len, vec_capacity}
use Rattle.age_index.specs.private.Nodes.{AreFree, unused}
use Rattle.age_index.proofs.ages.make_free.Given as goal

abbrev pub invariant-loop-made : goal.invariant-loop-made
invariant-loop-made l = record {
  are_free : AreFree l.nodes.items l.free.items;
  same : (x : ℕ) → slice_index_or l.nodes.items x unused ≡ slice_index_or l.fn.nodes.items x unused;
  nodes : vec_len l.nodes ≡ vec_len l.fn.nodes + l._made;
  free : vec_len l.free ≡ vec_len l.fn.free + l._made;
  nodes_capacity : vec_capacity l.nodes ≡ vec_capacity l.fn.nodes;
  free_capacity : vec_capacity l.free ≡ vec_capacity l.fn.free;
}
