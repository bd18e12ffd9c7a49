-- A text is split at its first line feed.
use Rattle.std.proofs.Common.{◌≡◌, ℕ, ◌+◌, ◌<◌, true, cond, not, List, [], ◌∷◌, ◌++◌, length, get_or}
use Rattle.std.proofs.Common.{Option, Some, None, refl, sym, ap, subst, ◌∙◌, arith}
use Rattle.std.proofs.Common.{length-append}
use Rattle.std.specs.Borrow.{Bor}
use Rattle.std.specs.Option.{MatchOption}
use Rattle.std.specs.Str.{chars, IsUtf8, NoCharPasses, NonePass}
use Rattle.std.proofs.lemmas.Bool.{and_parts, and_from, not-true}
use Rattle.std.proofs.lemmas.Str.{chars_from_encodes, chars-append}
use Rattle.std.proofs.lemmas.Str.{IsUtf8-take}
use Rattle.std.proofs.lemmas.Str.{IsCharBoundary-before_ascii}
use Rattle.std.proofs.lemmas.Str.Pattern.{IsSplitOnceResult, split_parts}
use Rattle.pm_span.specs.LineIndex.{after_line_feeds_from}
use Rattle.pm_span.specs.CharOffset.{is_line_feed}
use Rattle.pm_span.specs.Line.{is_one_line}
use Rattle.pm_span.proofs.LineLemmas.{after_line_feeds_from-append}

one_line : (cs : List ℕ) → NonePass is_line_feed cs → is_one_line cs ≡ true
one_line [] h = refl
one_line (c ∷ cs) h = and_from _ _ (ap not h.0) (one_line cs h.1)

one_line_of : (bytes : List ℕ) → IsUtf8 bytes → NoCharPasses is_line_feed bytes → is_one_line (chars bytes) ≡ true
one_line_of bytes utf8 h = subst (λ cs. is_one_line cs ≡ true) (chars_from_encodes h.0 bytes utf8 h.1)
    (one_line h.0 h.2)

pub feed_first : (bytes : List ℕ) → chars (10 ∷ bytes) ≡ 10 ∷ chars bytes
unfolding chars
feed_first [] = refl
feed_first (b ∷ bytes) = refl

-- the result of the search for a line feed
pub line_split : (text : List ℕ) (r : Option (Bor (List ℕ) × Bor (List ℕ))) → IsUtf8 text → IsSplitOnceResult 10 text r
    → MatchOption r (is_one_line (chars text) ≡ true)
    (λ x. (chars text ≡ chars x.0.now ++ (10 ∷ chars x.1.now)) × (is_one_line (chars x.0.now) ≡ true))
line_split text None utf8 h = one_line_of text utf8 h
line_split text (Some x) utf8 h =
    let parts = split_parts 10 text (Some x) h (omega arith) in
    let here : get_or text h.0 0 < 128 = omega (arith, h.2.1.byte (omega arith)) in
    let size = ap length parts.0 ∙ length-append x.0.now (10 ∷ x.1.now) in
    let line : IsUtf8 x.0.now =
    subst IsUtf8 (sym h.3) (IsUtf8-take text h.0 utf8
    (IsCharBoundary-before_ascii text h.0 (omega (arith, h.6, size)) here)) in (
      ap chars parts.0 ∙ (chars-append x.0.now (10 ∷ x.1.now) line
          ∙ ap (λ cs. chars x.0.now ++ cs) (feed_first x.1.now)),
      one_line_of x.0.now line (subst (NoCharPasses is_line_feed) (sym h.3) h.2.0),
    )

-- no line starts within a line
pub after_line_feeds_from-line : (k : ℕ) (cs : List ℕ) → is_one_line cs ≡ true → after_line_feeds_from k cs ≡ []
after_line_feeds_from-line k [] h = refl
after_line_feeds_from-line k (c ∷ cs) h =
    let parts = and_parts _ _ h in
    ap (λ b. cond b ((k + 1) ∷ after_line_feeds_from (k + 1) cs) (after_line_feeds_from (k + 1) cs))
    (not-true _ parts.0)
    ∙ after_line_feeds_from-line (k + 1) cs parts.1

-- the first line start is after the first line feed
pub after_line_feeds_from-split : (k n : ℕ) (text line rest : List ℕ) → text ≡ line ++ (10 ∷ rest)
    → is_one_line line ≡ true
    → n ≡ k + (length line + 1) → after_line_feeds_from k text ≡ n ∷ after_line_feeds_from n rest
after_line_feeds_from-split k n text line rest whole h e =
    ap (after_line_feeds_from k) whole
    ∙ (after_line_feeds_from-append k line (10 ∷ rest)
    ∙ (ap (λ starts. starts ++ after_line_feeds_from (k + length line) (10 ∷ rest))
    (after_line_feeds_from-line k line h)
    ∙ ap (λ m. m ∷ after_line_feeds_from m rest) (omega arith)))

pub split_size : (text line rest : List ℕ) → text ≡ line ++ (10 ∷ rest) → length text ≡ length line + (length rest + 1)
split_size text line rest whole = omega (arith, ap length whole, length-append line (10 ∷ rest))
