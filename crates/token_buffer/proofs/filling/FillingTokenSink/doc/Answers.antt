use Rattle.std.proofs.Common.{arith}
use Rattle.pm_stream.proofs.ReadingLemmas.{on_ok}
use Rattle.token_buffer.proofs.FilledLemmas.{doc_bytes, fills_doc}
use Rattle.token_buffer.proofs.filling.FillingTokenSink.doc.Goals as goal

pub overflow_add-lo : goal.overflow_add-lo
overflow_add-lo c =
    let made = doc_bytes c.args.self.now c.args.lexed c.requires.0 c.args.inner c.args.doc_body c.requires.1 in
    omega (arith, made, c.bytes-begin.ensures.ends)

pub overflow_sub-text : goal.overflow_sub-text
overflow_sub-text c =
    omega (arith, doc_bytes c.args.self.now c.args.lexed c.requires.0 c.args.inner c.args.doc_body c.requires.1)

pub overflow_sub-text-2 : goal.overflow_sub-text-2
overflow_sub-text-2 c =
    omega (arith, doc_bytes c.args.self.now c.args.lexed c.requires.0 c.args.inner c.args.doc_body c.requires.1)

pub overflow_cast-text : goal.overflow_cast-text
overflow_cast-text c =
    omega (arith, doc_bytes c.args.self.now c.args.lexed c.requires.0 c.args.inner c.args.doc_body c.requires.1)

pub overflow_cast-text-2 : goal.overflow_cast-text-2
overflow_cast-text-2 c =
    let made = doc_bytes c.args.self.now c.args.lexed c.requires.0 c.args.inner c.args.doc_body c.requires.1 in
    omega (arith, made, c.bytes-begin.ensures.ends)

pub overflow_add-text : goal.overflow_add-text
overflow_add-text c =
    let made = doc_bytes c.args.self.now c.args.lexed c.requires.0 c.args.inner c.args.doc_body c.requires.1 in
    omega (arith, made, c.bytes-begin.ensures.ends)

pub returns : goal.returns
returns c =
    on_ok c.push_doc.result (λ step to.
    fills_doc c.args.self.now c.args.lexed to c.push_doc.new.self c.args.inner c.args.doc_body _ c.requires.1
    (c.bytes-begin.ensures.begins to) step) c.push_doc.ensures
