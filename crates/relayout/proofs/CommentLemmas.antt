-- Doc comments instead of attributes: their pieces cover the new text, and mean the same tokens.
use Rattle.std.proofs.Common.{◌≡◌, ◌⊎◌, ℕ, Bool, true, false, not, ◌&&◌, ◌||◌, ◌==◌, List, [], ◌∷◌, ◌++◌, codes, refl}
use Rattle.std.proofs.Common.{sym, ap, ap₂, ◌∙◌, subst, inl, inr, append_assoc, append-nil, eqb-true}
use Rattle.std.specs.List.{list_all}
use Rattle.std.proofs.lemmas.Bool.{both_ways, and_parts, cond-true, cond-false, not-false, not-true, or_parts}
use Rattle.lexical.specs.Class.{is_white}
use Rattle.lexical.specs.Comment.{Comment, Doc, LineComment, closing, has_bare_return, is_doc}
use Rattle.lexical.specs.Cover.{onto, StandBefore, IsCover}
use Rattle.lexical.specs.Piece.{Kind, Piece, FrontMark, Gap, Open, Close, Leaf, IsPiece}
use Rattle.lexical.specs.Piece as pieces
use Rattle.lexical.specs.Text.{begins_with, ends_with, first_passes}
use Rattle.lexical.proofs.CommentKindLemmas.{front_is}
use Rattle.pm_token.specs.Escaped.{string_text}
use Rattle.pm_token.proofs.ValueLawLemmas.{strings_come_back}
use Rattle.pm_stream.specs.Events.{doc_onto}
use Rattle.pm_stream.specs.Forest.{flattening}
use Rattle.pm_stream.proofs.LawLemmas.{one_cover}
use Rattle.proc_macro2.proofs.EventSpans.{bare, piece_events, piece_event_onto, events_of_parsed, same_from_events}
use Rattle.relayout.specs.Commented.{Part, White, Kept, Attribute, CanHold, IsDocBlock, Keeps, MayAll}
use Rattle.relayout.specs.Commented.{block_comment, comment_front, doc_comment, is_doc_line, is_free}
use Rattle.relayout.specs.Commented.{new_pieces, old_pieces}
use Rattle.relayout.specs.Docs.{AreAlike, Both, Spelled, spelled_onto}
use Rattle.relayout.specs.Relayout.{is_line}
use Rattle.relayout.proofs.DocsLemmas.{alike_gives, onto_alike}
use Rattle.relayout.proofs.StandLemmas.{Calm, Feeds, piece_near}

-- ---- a doc comment of one line

-- a character that a one-line doc comment may contain
abbrev in_line : ℕ → Bool
in_line c = not ((c == 10) || (c == 13))

no_feed : (text : List ℕ) → list_all in_line text ≡ true → list_all (λ c. not (c == 10)) text ≡ true
no_feed [] all = refl
no_feed (c ∷ text) all =
    let both = and_parts (in_line c) (list_all in_line text) all in
    let signs = or_parts (c == 10) (c == 13) (not-true _ both.0) in
    ap₂ (λ a b. not a && b) signs.0 (no_feed text both.1)

no_return : (text : List ℕ) → list_all in_line text ≡ true → has_bare_return text ≡ false
no_return [] all = refl
no_return (c ∷ text) all =
    let both = and_parts (in_line c) (list_all in_line text) all in
    let signs = or_parts (c == 10) (c == 13) (not-true _ both.0) in
    ap₂ (λ a b. (a && not (begins_with (codes "\n") text)) || b) signs.1 (no_return text both.1)

no_end : (c : ℕ) (text : List ℕ) → (c == 13) ≡ false → list_all in_line text ≡ true → ends_with 13 (c ∷ text) ≡ false
no_end c [] none all = none
no_end c (d ∷ text) none all =
    let both = and_parts (in_line d) (list_all in_line text) all in
    no_end d text (or_parts (d == 10) (d == 13) (not-true _ both.0)).1 both.1

line_stands : (sign : ℕ) (text r : List ℕ) → (sign == 10) ≡ false → list_all in_line text ≡ true
    → LineComment (47 ∷ 47 ∷ sign ∷ text) (10 ∷ r)
line_stands sign text r other all = record {
  front = codes "//";
  back = sign ∷ text;
  whole = refl;
  first = refl;
  second = record { each = ap₂ (λ a b. not a && b) other (no_feed text all); stops = refl };
}

-- the last character before the LF is part of the comment's text
no_closing : (sign : ℕ) (text r : List ℕ) → (sign == 13) ≡ false → list_all in_line text ≡ true
    → closing (47 ∷ 47 ∷ sign ∷ text) (10 ∷ r) ≡ []
no_closing sign text r other all = rw (no_end sign text other all) refl

doc_stands : (inner : Bool) (text r : List ℕ) → is_doc_line inner text ≡ true
    → Doc inner text (comment_front inner ++ text) (10 ∷ r)
doc_stands true text r may =
    let all = (and_parts (list_all in_line text) true may).0 in
    record {
      comment = (inl (line_stands 33 text r refl all), refl);
      inward = refl;
      front = codes "//!";
      three = refl;
      whole = ap (λ x. codes "//!" ++ x) (sym (ap (λ x. text ++ x) (no_closing 33 text r refl all) ∙ append-nil text));
      returns = no_return text all;
    }
doc_stands false text r may =
    let both = and_parts (list_all in_line text) (not (begins_with (codes "/") text)) may in
    record {
      comment = (inl (line_stands 47 text r refl both.0), documents text (not-true _ both.1));
      inward = refl;
      front = codes "///";
      three = refl;
      whole =
          ap (λ x. codes "///" ++ x) (sym (ap (λ x. text ++ x) (no_closing 47 text r refl both.0) ∙ append-nil text));
      returns = no_return text both.0;
    }
  where
    documents : (text : List ℕ) → begins_with (codes "/") text ≡ false → is_doc (codes "///" ++ text) ≡ true
    documents [] plain = refl
    documents (c ∷ text) plain = rw plain refl

-- ---- the doc comment for a text

-- a block doc comment stands before LF too
block_stands : (inner : Bool) (text r : List ℕ) → IsDocBlock inner text
    → Doc inner text (block_comment inner text) (10 ∷ r)
block_stands inner text r is =
    piece_near false (pieces.Doc inner text) (block_comment inner text) [] [] (10 ∷ r) refl refl
    (λ none line. inr (r, refl)) is.1

held_stands : (any inner : Bool) (text r : List ℕ) → CanHold any inner text
    → Doc inner text (doc_comment inner text) (10 ∷ r)
held_stands any inner text r can = by_line (is_doc_line inner text) refl can
  where
    by_line : (b : Bool) → is_doc_line inner text ≡ b → CanHold any inner text
        → Doc inner text (doc_comment inner text) (10 ∷ r)
    by_line true line can =
        subst (λ c. Doc inner text c (10 ∷ r)) (sym (cond-true _ _ _ line)) (doc_stands inner text r line)
    by_line false other (inl line) = absurd (both_ways _ other line)
    by_line false other (inr block) =
        subst (λ c. Doc inner text c (10 ∷ r)) (sym (cond-false _ _ _ other)) (block_stands inner text r block.1)

-- ---- what follows a piece, with the attributes and with the comments

-- both texts begin with the same pieces, and then with the same white character, or they end
record Near (r t : List ℕ) : Type 0 where
  both : List ℕ
  old : List ℕ
  new : List ℕ
  was : r ≡ both ++ old
  is : t ≡ both ++ new
  ends : ((old ≡ []) × (new ≡ []))
      ⊎ ((c : ℕ) × (s : List ℕ) × (u : List ℕ) × (old ≡ c ∷ s) × (new ≡ c ∷ u) × (is_white c ≡ true))

near_all : (any : Bool) (ps : List Part) → MayAll any false ps
    → Near (onto (old_pieces ps) []) (onto (new_pieces ps) [])
near_all any [] may = record { both = []; old = []; new = []; was = refl; is = refl; ends = inl (refl, refl) }
near_all any (White c ∷ ps) may = record {
  both = [];
  old = c ∷ onto (old_pieces ps) [];
  new = c ∷ onto (new_pieces ps) [];
  was = refl;
  is = refl;
  ends = inr (c, _, _, refl, refl, may.0);
}
near_all any (Kept x ∷ ps) may =
    let near = near_all any ps may.1 in
    record {
      both = x.1 ++ near.both;
      old = near.old;
      new = near.new;
      was = ap (λ r. x.1 ++ r) near.was ∙ sym (append_assoc x.1 near.both near.old);
      is = ap (λ r. x.1 ++ r) near.is ∙ sym (append_assoc x.1 near.both near.new);
      ends = near.ends;
    }
near_all any (Attribute inner literal text ∷ ps) may = absurd (both_ways false refl may.0.0)

-- what follows a line comment begins with LF
feed_after : (p s : List ℕ) (c : ℕ) → begins_with (codes "//") p ≡ true → Comment p (c ∷ s) → c ≡ 10
feed_after p s c line (inl h) = eqb-true c 10 (not-false _ h.second.stops)
feed_after p s c line (inr h) =
    absurd (both_ways _ (ap (begins_with (codes "//")) (front_is h)) line)

line_ends : (first : Bool) (k : Kind) (p s : List ℕ) (c : ℕ) → is_line (k, p) ≡ true → IsPiece first k p (c ∷ s)
    → c ≡ 10
line_ends first Gap p s c line (inl white) =
    absurd (both_ways false refl (and_parts (47 == white.0) false
    (sym (ap (begins_with (codes "//")) white.1) ∙ line)).1)
line_ends first Gap p s c line (inr plain) = feed_after p s c line plain.0
line_ends first (pieces.Doc inner text) p s c line h = feed_after p s c line h.comment.0
line_ends first FrontMark p s c line h = absurd (both_ways false refl line)
line_ends first (Open d) p s c line h = absurd (both_ways false refl line)
line_ends first (Close d) p s c line h = absurd (both_ways false refl line)
line_ends first (Leaf token) p s c line h = absurd (both_ways false refl line)

kept_stands : (first : Bool) (x : Piece) (r t : List ℕ) → Near r t → IsPiece first x.0 x.1 r → IsPiece first x.0 x.1 t
kept_stands first x r t near h =
    let there : IsPiece first x.0 x.1 (near.both ++ near.old) = subst (IsPiece first x.0 x.1) near.was h in
    subst (IsPiece first x.0 x.1) (sym near.is) (by_end near.both near.old near.new near.ends there)
  where
    by_end : (b old new : List ℕ)
        → ((old ≡ []) × (new ≡ []))
        ⊎ ((c : ℕ) × (s : List ℕ) × (u : List ℕ) × (old ≡ c ∷ s) × (new ≡ c ∷ u) × (is_white c ≡ true))
        → IsPiece first x.0 x.1 (b ++ old) → IsPiece first x.0 x.1 (b ++ new)
    by_end b old new (inl none) there = subst (λ w. IsPiece first x.0 x.1 (b ++ w)) (none.0 ∙ sym none.1) there
    by_end b old new (inr (c, s, u, was, is, white)) there =
        let calm : (w v : List ℕ) → w ≡ c ∷ v → Calm w = λ w v e. ap (first_passes (λ d. not (is_white d))) e
        ∙ ap not white in
        let feeds : Feeds x b old new = λ none line.
        let after = subst (IsPiece first x.0 x.1) (ap₂ (λ v w. v ++ w) none was) there in
        inr (u, is ∙ ap (λ d. d ∷ u) (line_ends first x.0 x.1 s c line after)) in
        piece_near first x.0 x.1 b old new (calm old s was) (calm new u is) feeds there

-- ---- all pieces

stand_all : (any first free : Bool) (ps : List Part) → MayAll any free ps → StandBefore first (old_pieces ps) []
    → StandBefore first (new_pieces ps) []
stand_all any first free [] may stand = tt
stand_all any first free (White c ∷ ps) may stand =
    (inl (c, refl, may.0), stand_all any false (is_free free (White c)) ps may.1 stand.1)
stand_all any first free (Kept x ∷ ps) may stand =
    (kept_stands first x _ _ (near_all any ps may.1) stand.0, stand_all any false false ps may.1 stand.1)
stand_all any first free (Attribute true literal text ∷ ps) may stand = (
  held_stands any true text _ may.0.2,
  (inl (10, refl, refl), stand_all any false true ps may.1 stand.1.1.1.1.1.1.1.1.1.1.1),
)
stand_all any first free (Attribute false literal text ∷ ps) may stand = (
  held_stands any false text _ may.0.2,
  (inl (10, refl, refl), stand_all any false true ps may.1 stand.1.1.1.1.1.1.1.1.1),
)

-- the pieces with comments mean the same tokens, if literals are spelled as comments are read
events_of_parts : (free : Bool) (ps : List Part) → MayAll false free ps
    → piece_events (new_pieces ps) ≡ piece_events (old_pieces ps)
events_of_parts free [] may = refl
events_of_parts free (White c ∷ ps) may = events_of_parts (is_free free (White c)) ps may.1
events_of_parts free (Kept x ∷ ps) may = ap (piece_event_onto x.0) (events_of_parts false ps may.1)
events_of_parts free (Attribute true literal text ∷ ps) may =
    ap (doc_onto 0 0 true text) (events_of_parts true ps may.1)
    ∙ ap (λ l. spelled_onto true l (piece_events (old_pieces ps))) (sym may.0.1)
events_of_parts free (Attribute false literal text ∷ ps) may =
    ap (doc_onto 0 0 false text) (events_of_parts true ps may.1)
    ∙ ap (λ l. spelled_onto false l (piece_events (old_pieces ps))) (sym may.0.1)

-- the pieces with comments mean tokens that are alike
events_are_alike : (free : Bool) (ps : List Part) → MayAll true free ps
    → AreAlike (piece_events (old_pieces ps)) (piece_events (new_pieces ps))
events_are_alike free [] may = Both
events_are_alike free (White c ∷ ps) may = events_are_alike (is_free free (White c)) ps may.1
events_are_alike free (Kept x ∷ ps) may = onto_alike x.0 (events_are_alike false ps may.1)
events_are_alike free (Attribute true literal text ∷ ps) may =
    Spelled true literal (string_text text) text may.0.1.1 (strings_come_back text may.0.1.0)
    (events_are_alike true ps may.1)
events_are_alike free (Attribute false literal text ∷ ps) may =
    Spelled false literal (string_text text) text may.0.1.1 (strings_come_back text may.0.1.0)
    (events_are_alike true ps may.1)

-- ---- the law

pub comments_cover : (any : Bool) (source : List ℕ) (ps : List Part) → IsCover (old_pieces ps) source
    → MayAll any true ps → IsCover (new_pieces ps) (onto (new_pieces ps) [])
comments_cover any source ps covers may =
    record { whole = refl; stand = stand_all any true true ps may covers.stand }

pub comments_keep : (any : Bool) (source : List ℕ) (ps : List Part) → IsCover (old_pieces ps) source
    → MayAll any true ps → Keeps any source (onto (new_pieces ps) [])
comments_keep false source ps covers may = λ base first stream parses.
    let says : piece_events (new_pieces ps) ≡ bare (flattening stream) =
    events_of_parts true ps may ∙ (ap piece_events (one_cover source (old_pieces ps) parses.pieces covers parses.covers)
    ∙ events_of_parsed first source stream parses) in
    let x = same_from_events base stream (new_pieces ps) says in
    record {
      parsed = x.0;
      parses = record { pieces = new_pieces ps; covers = comments_cover false source ps covers may; expands = x.1 };
      same = x.2;
    }
comments_keep true source ps covers may = λ base first stream parses.
    let says : piece_events (old_pieces ps) ≡ bare (flattening stream) =
    ap piece_events (one_cover source (old_pieces ps) parses.pieces covers parses.covers)
    ∙ events_of_parsed first source stream parses in
    alike_gives base (onto (new_pieces ps) []) stream (new_pieces ps) (comments_cover true source ps covers may)
    (subst (λ es. AreAlike es (piece_events (new_pieces ps))) says (events_are_alike true ps may))
