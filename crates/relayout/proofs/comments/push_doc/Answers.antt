use Rattle.std.proofs.Common.{refl}
use Rattle.std.specs.Str.{chars}
use Rattle.std.proofs.lemmas.Str.{scalars-chars}
use Rattle.relayout.proofs.AttributeLemmas.{no_form}
use Rattle.relayout.proofs.KeptLemmas.{becomes}
use Rattle.relayout.proofs.comments.push_doc.Goals as goal

pub returns-in_default-clause-found : goal.returns-in_default-clause-found
returns-in_default-clause-found c = (
  no_form c.args.any (chars c.args.text.now) c.requires.is.0 (chars c.args.doc_body.now) (chars c.args.rest.now)
      c.args.inner c.requires.is.1 (scalars-chars c.args.doc_body.now c.utf8.doc_body)
      (rw c.in_default.is at c.in_ok-front.ensures),
  refl,
)

pub returns-clause-found : goal.returns-clause-found
returns-clause-found c =
    let form = rw c.in-Some.is at c.in_ok-front.ensures in
    becomes c.args.any (chars c.args.kept.now) (chars c.args.text.now) c.requires.is.0 (chars c.args.doc_body.now)
    (chars c.args.rest.now) c.args.out.now (chars c.before-2.result.now) (chars c.in-Some.front.now)
    (chars c.in-Some.end.now) c.push_text.new.self c.push_text-2.new.self c.push_text-3.new.self
    c.push_text-4.new.self c.args.inner c.requires.is.1 form.0 c.before-2.ensures form.1 c.in_ok-push_text.ensures.ok
    c.in_ok-push_text-2.ensures.ok c.in_ok-push_text-3.ensures.ok c.in_ok-push_text-4.ensures.ok
