use Rattle.std.proofs.Common.{◌++◌, ◌∙◌, ◌∷◌, ap, refl}
use Rattle.std.specs.Prelude.{string_bytes}
use Rattle.std.specs.Str.{chars}
use Rattle.std.proofs.lemmas.Str.{scalars-chars, IsUtf8-string_bytes}
use Rattle.pm_token.specs.Escaped.{string_text}
use Rattle.relayout.proofs.AttributeLemmas.{literal_alone, no_front, no_literal, no_text, string_spells, string_stands}
use Rattle.relayout.specs.Commented.{attribute_front}
use Rattle.relayout.proofs.LiteralLemmas.{plain_all, text_past}
use Rattle.relayout.proofs.comments.push_attribute.Goals as goal

pub returns-in_default-clause-found : goal.returns-in_default-clause-found
returns-in_default-clause-found c = (no_front c.args.any _ c.in_default.ensures.found, refl)

pub push_doc-requires-clause-is : goal.push_doc-requires-clause-is
push_doc-requires-clause-is c =
    let front = c.in-Some-plain_front.front.now in
    let more = c.in-Some-plain_front.more.now in
    let doc_body = scalars-chars front c.in-Some-plain_front.ensures.utf8_front in (
      string_text (chars front),
      record {
        is = c.in-Some.ensures.found
            ∙ ap (λ x. attribute_front c.in-Some.inner ++ x)
            (plain_all (chars c.in-Some.after.now) (chars front ++ chars more) (chars front) (chars more)
            (chars c.in-Some-past.end.rest.now) c.in-Some-plain_front.ensures.split refl
            c.in-Some-plain_front.ensures.plain
            (text_past _ _ c.new.result c.in-Some-past.end c.new.ensures.rest c.in-Some-past.ensures));
        stands = string_stands (chars front) (10 ∷ chars c.in-Some-past.end.rest.now) doc_body;
        spells = string_spells c.args.any (chars front) doc_body;
      },
    )

pub push_doc-requires-in-Some-2-clause-is : goal.push_doc-requires-in-Some-2-clause-is
push_doc-requires-in-Some-2-clause-is c =
    let found = rw c.in-Some-2.is at c.in_ok-doc_body.ensures.found in
    let bytes = string_bytes c.in-Some-2.doc_body in
    let doc_body = scalars-chars bytes (IsUtf8-string_bytes c.in-Some-2.doc_body) in
    rw (ap chars c.as_str.ensures.value) (
      string_text (chars bytes),
      record {
        is = c.in-Some.ensures.found
            ∙ ap (λ x. attribute_front c.in-Some.inner ++ x) (c.in-Some-plain_front.ensures.split ∙ found);
        stands = string_stands (chars bytes) (10 ∷ chars c.in-Some-2.rest.now) doc_body;
        spells = string_spells c.args.any (chars bytes) doc_body;
      },
    )

pub text_of-requires : goal.text_of-requires
text_of-requires c =
    literal_alone (chars c.in-Some-split_literal.literal.now) _ c.in-Some-split_literal.ensures.found.0

pub returns-in_default-3-clause-found : goal.returns-in_default-3-clause-found
returns-in_default-3-clause-found c = (
  no_text c.args.any _ (chars c.in-Some.after.now) (chars c.in-Some-split_literal.literal.now)
      (chars c.in-Some-split_literal.rest.now) c.in-Some.inner c.in-Some.ensures.found
      c.in-Some-split_literal.ensures.found.0 c.in-Some-split_literal.ensures.found.1
      (rw c.in_default-3.is at c.in_ok-doc_body-2.ensures),
  refl,
)

pub returns-in_default-split_literal-clause-found : goal.returns-in_default-split_literal-clause-found
returns-in_default-split_literal-clause-found c = (
  no_literal c.args.any _ (chars c.in-Some.after.now) c.in-Some.inner c.in-Some.ensures.found
      c.in_default-split_literal.ensures.found,
  refl,
)
