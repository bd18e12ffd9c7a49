use Rattle.std.proofs.Common.{Err, ap}
use Rattle.std.specs.Io.KnownBytes.{Appends}
use Rattle.std.specs.Str.{chars}
use Rattle.std.proofs.KnownBytes.{Appends-nil, Appends-trans}
use Rattle.messages.proofs.ParsedLemmas.{unparsed_may_fail}
use Rattle.proc_macro2.proofs.LineColumnLemmas.{inside_line_columns}
use Rattle.proc_macro2.specs.declared.TokenStream.{TokenStream}
use Rattle.list_docs.specs.Answer.{line_of_literal}
use Rattle.list_docs.specs.Doc.{doc_of}
use Rattle.list_docs.proofs.answer.print_text.Goals as goal
use Rattle.list_docs.proofs.answer.print_text.Goals.{in-Some-doc_text+in_ok-writeln-in-Ok, in_default-doc_text}

pub loop-walk-init : goal.loop-walk-init
loop-walk-init g c =
    rw c.walk-walk.ensures (inside_line_columns _ _ (rw c.new-map.ensures at c.in-Ok.ensures.ok), λ new h. h)

pub start-start-requires : goal.start-start-requires
start-start-requires g c =
    let left = rw (rw c.in-Some.is at c.in_ok-tree-in-Ok.ensures.ok) at c.loop-walk.invariant.0 in
    let literal = (rw c.in-Some-doc_text.ensures.trees.2 at left.0).1.1.0 in
    rw (c.in-Ok.ensures.kept, c.new-map.ensures, c.span.ensures.value) literal.0

pub loop-walk-preserved : goal.loop-walk-preserved
loop-walk-preserved g c =
    let next = rw c.in-Some.is at c.in_ok-tree-in-Ok.ensures.ok in
    let left = rw next at c.loop-walk.invariant.0 in
    let writes = rw next at c.loop-walk.invariant.1 in
    let bytes = g.W.Write.contents in
    let doc : Appends (bytes c.loop-walk.writer) (bytes c.match-doc_text.writer)
    (line_of_literal (chars c.args.text.now) (doc_of c.in-Some.tree.now)) =
    elim c.match-doc_text.branch [
      | in-Some-doc_text+in_ok-writeln-in-Ok w ↦
          let starts = rw (c.in-Ok.ensures.kept, c.new-map.ensures, w.span.ensures.value) at w.start-start.ensures in
          let start = (rw w.in-Some-doc_text.ensures.trees.2 at left.0).1.1.0.1 _ starts in
          rw (w.writer-is, ← w.in-Some-doc_text.ensures.value) (rw start at w.in_ok-writeln-in-Ok.ensures.bytes)
      | in_default-doc_text w ↦
          rw (w.writer-is, ← (rw w.in_default-doc_text.is at c.doc_text.ensures.value)) (Appends-nil _)
    ] in
    let item = c.in_ok-print_item-in-Ok.ensures in (
      left.1,
      λ new h. writes new
          (Appends-trans _ _ _ _ _ (Appends-trans _ _ _ _ _ doc item) (rw c.after-state.ensures at h)),
    )

pub returns-in-Ok-clause-ok : goal.returns-in-Ok-clause-ok
returns-in-Ok-clause-ok g c =
    let next = rw c.in_default.is at c.in_ok-tree-in-Ok.ensures.ok in
    let written = c.loop-walk.invariant.1 (g.W.Write.contents c.loop-walk.writer) (rw next.0 (Appends-nil _)) in
    (c.in-Ok.stream, rw c.new-map.ensures at c.in-Ok.ensures.ok, rw c.walk-walk.ensures at written)

pub returns-clause-err : goal.returns-clause-err
returns-clause-err g c =
    let full = rw c.new-map.ensures at c.in-Err.ensures.map_full.0 in
    unparsed_may_fail TokenStream _ _ _ _ _ (rw c.new-map.ensures at c.in-Err.ensures.kept)
    (rw c.new-map.ensures at c.in-Err.ensures.fault.lex) (λ is. full (ap Err is))
    c.parse_failure.ensures.fault c.parse_failure.ensures.map_full c.parse_failure.ensures.memory
