use Rattle.std.proofs.Common.{◌≡◌, List, ℕ, true, [], ◌∷◌, ◌++◌, codes, drop, refl, sym, ap, ◌∙◌, append-nil}
use Rattle.std.specs.Str.{IsUtf8, chars}
use Rattle.std.proofs.lemmas.Bool.{and_right}
use Rattle.std.proofs.lemmas.List.{append_cancel_right}
use Rattle.lexical.specs.Comment.{Comment, is_doc, closing}
use Rattle.lexical.specs.CommentKind.{doc_text}
use Rattle.lexical.specs.Form.{Where}
use Rattle.lexical.specs.Text.{ends_with}
use Rattle.lexical.proofs.StripLemmas.{last_return}
use Rattle.lexical.proofs.TextLemmas.{seam_boundary, seam_drop}
use Rattle.lexical.proofs.CommentKindLemmas.{doc_back, doc_front, closing_block, closing_line, closing_none}
use Rattle.lexical.proofs.docs.doc_text.Goals as goal

sign : chars (42 ∷ 47 ∷ []) ≡ codes "*/"
unfolding chars
sign = refl

-- the text after the first three bytes is the text after the first three characters
after_front : (comment doc_body : List ℕ) → IsUtf8 comment → is_doc (chars comment) ≡ true → doc_body ≡ drop 3 comment
    → chars doc_body ≡ drop 3 (chars comment)
after_front comment doc_body utf8 doc cut =
    let d = doc_front (chars comment) doc in
    ap chars cut ∙ seam_drop comment d.front (drop 3 (chars comment)) 3 utf8 d.whole d.bytes

-- this text is the doc text and the end of the comment
doc_body_is : (comment doc_body r end : List ℕ) → IsUtf8 comment → Where is_doc Comment (chars comment) r
    → doc_body ≡ drop 3 comment
    → closing (chars comment) r ≡ end → chars doc_body ≡ doc_text (chars comment) r ++ end
doc_body_is comment doc_body r end utf8 h cut is =
    after_front comment doc_body utf8 h.1 cut
    ∙ (doc_back (chars comment) r h.0 h.1 ∙ ap (λ x. doc_text (chars comment) r ++ x) is)

pub range_from-doc_body-requires : goal.range_from-doc_body-requires
range_from-doc_body-requires c = λ _.
    let d = doc_front (chars c.args.comment.now) c.requires.1 in
    seam_boundary c.args.comment.now d.front (drop 3 (chars c.args.comment.now)) 3 c.utf8.comment d.whole d.bytes

pub before-requires : goal.before-requires
before-requires c =
    let end = closing_block (chars c.args.comment.now) (chars c.args.rest.now) (sym c.if-begins.ensures) ∙ sym sign in
    (_, doc_body_is _ _ _ _ c.utf8.comment c.requires c.range_from-doc_body.ensures.value end)

pub returns-then-begins : goal.returns-then-begins
returns-then-begins c =
    let end = closing_block (chars c.args.comment.now) (chars c.args.rest.now) (sym c.if-begins.ensures) ∙ sym sign in
    c.before-then-begins.ensures _ (doc_body_is _ _ _ _ c.utf8.comment c.requires c.range_from-doc_body.ensures.value
    end)

pub returns-then-begins-2 : goal.returns-then-begins-2
returns-then-begins-2 c =
    let same = after_front _ _ c.utf8.comment c.requires.1 c.range_from-doc_body.ensures.value in
    let end = closing_line (chars c.args.comment.now) (chars c.args.rest.now) c.requires.1 (sym c.if-begins.ensures)
    (sym c.if-begins-2.ensures) in
    append_cancel_right _ _ (last_return (chars c.range_from-doc_body.result.now)) (sym c.without_return.ensures
    ∙ doc_body_is _ _ _ _ c.utf8.comment c.requires c.range_from-doc_body.ensures.value
    (end ∙ ap last_return (sym same)))

pub returns-else-begins-2 : goal.returns-else-begins-2
returns-else-begins-2 c =
    let p = chars c.args.comment.now in
    let end = closing_none p (chars c.args.rest.now) (sym c.if-begins.ensures)
    (and_right (ends_with 13 p) _ (sym c.if-begins-2.ensures)) in
    doc_body_is _ _ _ _ c.utf8.comment c.requires c.range_from-doc_body.ensures.value end ∙ append-nil _
