use Rattle.same.proofs.ComparingLemmas.{comments_same, docs_same, literals_same, names_same, same_bools, texts_same}
use Rattle.same.proofs.comparing.is_alike.Goals as goal

pub returns-then-raw-other_raw : goal.returns-then-raw-other_raw
returns-then-raw-other_raw c =
    rw (c.in-Name-Name.is-0, c.in-Name-Name.is-1)
    (names_same _ _ _ _ c.eq.result (same_bools _ _ c.if-raw-other_raw.true) (texts_same _ _ c.eq.result
    (rw c.in-Name-Name.is-0 at c.requires.one) (rw c.in-Name-Name.is-1 at c.requires.other) c.eq.ensures))

pub returns-in-Literal-Literal : goal.returns-in-Literal-Literal
returns-in-Literal-Literal c =
    rw (c.in-Literal-Literal.is-0, c.in-Literal-Literal.is-1)
    (literals_same _ _ _ (texts_same _ _ c.eq-in-Literal-Literal.result
    (rw c.in-Literal-Literal.is-0 at c.requires.one) (rw c.in-Literal-Literal.is-1 at c.requires.other)
    c.eq-in-Literal-Literal.ensures))

pub returns-in-DocText-DocText : goal.returns-in-DocText-DocText
returns-in-DocText-DocText c =
    rw (c.in-DocText-DocText.is-0, c.in-DocText-DocText.is-1)
    (literals_same _ _ _ (docs_same _ _ c.eq-in-DocText-DocText.result
    (rw c.in-DocText-DocText.is-0 at c.requires.one) (rw c.in-DocText-DocText.is-1 at c.requires.other)
    c.eq-in-DocText-DocText.ensures))

pub returns-in-Comment-Comment : goal.returns-in-Comment-Comment
returns-in-Comment-Comment c =
    rw (c.in-Comment-Comment.is-0, c.in-Comment-Comment.is-1)
    (comments_same _ _ _ (texts_same _ _ c.eq-in-Comment-Comment.result
    (rw c.in-Comment-Comment.is-0 at c.requires.one) (rw c.in-Comment-Comment.is-1 at c.requires.other)
    c.eq-in-Comment-Comment.ensures))
