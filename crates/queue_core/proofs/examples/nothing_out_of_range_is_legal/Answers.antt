use Rattle.std.proofs.Common.{◌≤◌, refl, arith}
use Rattle.std.proofs.lemmas.Bool.{false≢true}
use Rattle.queue_core.proofs.examples.nothing_out_of_range_is_legal.Goals as goal

pub returns : goal.returns
returns c = record {
  delay = λ q h. let most : 901 ≤ 900 = h.1 901 refl in omega arith;
  empty_body = λ q h. false≢true h.0;
  no_messages = λ q h. let least : 1 ≤ 0 = h.0.0 in omega arith;
  eleven_messages = λ q h. let most : 11 ≤ 10 = h.0.1 in omega arith;
  timeout = λ q h. let most : 43201 ≤ 43200 = h in omega arith;
}
