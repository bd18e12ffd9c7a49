use Rattle.std.proofs.Common.{arith}
use Rattle.token_buffer.proofs.FilledLemmas.{bytes_fit}
use Rattle.token_buffer.proofs.filling.Filling.bytes.Goals as goal

pub overflow_sub-lo : goal.overflow_sub-lo
overflow_sub-lo c = omega (arith, bytes_fit c.args.self.now c.args.lexed c.requires)

pub overflow_cast-result : goal.overflow_cast-result
overflow_cast-result c = omega (arith, bytes_fit c.args.self.now c.args.lexed c.requires)

pub overflow_add-result : goal.overflow_add-result
overflow_add-result c = omega (arith, bytes_fit c.args.self.now c.args.lexed c.requires)

pub returns-clause-begins : goal.returns-clause-begins
returns-clause-begins c = λ to. omega (arith, bytes_fit c.args.self.now c.args.lexed to)
