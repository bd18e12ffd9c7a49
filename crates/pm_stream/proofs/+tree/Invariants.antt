use Rattle.std.proofs.Common.{◌+◌, ◌<◌, ◌≤◌}
use Rattle.pm_stream.specs.Size.{count}
use Rattle.pm_stream.proofs.+tree.Given as goal

abbrev pub invariant-stream::TokenStream::drop-loop : goal.invariant-stream::TokenStream::drop-loop
invariant-stream::TokenStream::drop-loop l = record {
  here : count l.here < count l.fn.self;
  outer : count l.outer < count l.fn.self;
  both : count l.here + count l.outer ≤ count l.fn.self;
}
