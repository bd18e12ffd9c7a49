-- A text that is written part by part, with comments instead of attributes.
use Rattle.std.proofs.Common.{◌≡◌, ℕ, Bool, true, false, ◌&&◌, List, [], ◌∷◌, ◌++◌, codes, refl}
use Rattle.std.proofs.Common.{sym, ap, ◌∙◌, subst, inl, append_assoc, append-nil}
use Rattle.std.proofs.Common.{◌||◌, ◌<◌, inr, length, arith}
use Rattle.std.proofs.lemmas.Bool.{cases_Bool}
use Rattle.lexical.specs.Cover.{onto, StandBefore, IsCover}
use Rattle.lexical.specs.Literal.{Literal as IsLiteral}
use Rattle.lexical.specs.Piece.{Kind, Piece, Gap, IsPiece}
use Rattle.lexical.specs.Text.{begins_with}
use Rattle.lexical.proofs.PieceFacts.{piece_not_empty, piece_shortens}
use Rattle.lexical.proofs.PieceLemmas.{one_piece}
use Rattle.grammar_laws.proofs.LeafLaws.{onto_split}
use Rattle.pm_stream.proofs.CoverLemmas.{onto-append}
use Rattle.pm_stream.proofs.DocLemmas.{doc_name_built}
use Rattle.proc_macro2.proofs.PieceStarts.{name_stands}
use Rattle.relayout.specs.Comments.{AreFound, HasNoAttribute, IsAttribute, IsCommented, IsFirstPart, Stays}
use Rattle.relayout.specs.Written.{is_white_gap}
use Rattle.relayout.proofs.ChoiceLemmas.{gap_is}
use Rattle.relayout.specs.Commented.{Part, White, Kept, Attribute, CanHold, MayAll}
use Rattle.relayout.specs.Commented.{attribute_pieces, doc_pieces, is_free}
use Rattle.relayout.specs.Commented.{new_part, new_pieces, old_part, old_pieces}
use Rattle.relayout.proofs.CommentLemmas.{comments_cover, comments_keep}
use Rattle.relayout.proofs.RelaidLemmas.{Cover}

-- ---- pieces before others

stand_append : (first : Bool) (x : Piece) (us vs : List Piece) (r : List ℕ) → StandBefore first (x ∷ us) (onto vs r)
    → StandBefore false vs r → StandBefore first ((x ∷ us) ++ vs) r
stand_append first x [] vs r h more = (h.0, more)
stand_append first x (y ∷ us) vs r h more = (
  subst (IsPiece first x.0 x.1) (sym (onto-append (y ∷ us) vs r)) h.0,
  stand_append false y us vs r h.1 more,
)

-- if a piece begins a text that has a cover, what follows the piece has a cover
past_piece : (first : Bool) (x : Piece) (r : List ℕ) → IsPiece first x.0 x.1 r → Cover first (x.1 ++ r) → Cover false r
past_piece first x r h cover = by_pieces cover.pieces cover.whole cover.stand
  where
    by_pieces : (ps : List Piece) → x.1 ++ r ≡ onto ps [] → StandBefore first ps [] → Cover false r
    by_pieces [] e stand =
        let some = piece_not_empty first x.0 x.1 r h in
        let clash : some.0 ∷ (some.1 ++ r) ≡ [] = ap (λ p. p ++ r) (sym some.2) ∙ e in
        absurd (cc)
    by_pieces (y ∷ ps) e stand =
        let same = one_piece first x.0 y.0 x.1 y.1 r (onto ps []) h stand.0 e in
        record { pieces = ps; whole = same.2; stand = stand.1 }

past_pieces : (first : Bool) (x : Piece) (us : List Piece) (r : List ℕ) → StandBefore first (x ∷ us) r
    → Cover first (onto (x ∷ us) r) → Cover false r
past_pieces first x [] r h cover = past_piece first x r h.0 cover
past_pieces first x (y ∷ us) r h cover =
    past_pieces false y us r h.1 (past_piece first x (onto (y ∷ us) r) h.0 cover)

-- each part has at least one piece
some_piece : (part : Part) → (x : Piece) × (us : List Piece) × (old_part part ≡ x ∷ us)
some_piece (White c) = ((Gap, c ∷ []), [], refl)
some_piece (Kept piece) = (piece, [], refl)
some_piece (Attribute true literal text) = (_, _, refl)
some_piece (Attribute false literal text) = (_, _, refl)

-- ---- what is written so far

-- what is written for the parts so far, together with any parts for the rest, makes the whole text
pub record Makes (any : Bool) (source : List ℕ) (first free : Bool) (rest out : List ℕ) : Type 0 where
  pub only : Cover true source → Cover first rest
  pub all : (ps : List Part) → rest ≡ onto (old_pieces ps) [] → StandBefore first (old_pieces ps) []
      → MayAll any free ps → AreFound any free ps
      → (us : List Part) × (source ≡ onto (old_pieces us) []) × StandBefore true (old_pieces us) []
      × MayAll any true us × AreFound any true us × (out ++ onto (new_pieces ps) [] ≡ onto (new_pieces us) [])

pub makes_start : (any : Bool) (source out : List ℕ) → out ≡ [] → Makes any source true true source out
makes_start any source out none = record {
  only = λ cover. cover;
  all = λ ps e stand may found. (ps, e, stand, may, found, ap (λ o. o ++ onto (new_pieces ps) []) none);
}

pub makes_part : (any : Bool) (source : List ℕ) (first free now : Bool) (text rest out new : List ℕ) (part : Part)
    → IsFirstPart any first free text part rest → now ≡ is_free free part → new ≡ out ++ onto (new_part part) []
    → Makes any source first free text out → Makes any source false now rest new
makes_part any source first free now text rest out new part is after push so =
    let some = some_piece part in
    record {
      only = λ cover.
          past_pieces first some.0 some.1 rest (subst (λ us. StandBefore first us rest) some.2 is.stand)
          (subst (Cover first) (is.whole ∙ ap (λ us. onto us rest) some.2) (so.only cover));
      all = λ ps e stand may found.
          let whole : text ≡ onto (old_pieces (part ∷ ps)) [] =
          is.whole ∙ (ap (onto (old_part part)) e ∙ sym (onto-append (old_part part) (old_pieces ps) [])) in
          let there : StandBefore first (some.0 ∷ some.1) (onto (old_pieces ps) []) =
          subst (λ us. StandBefore first us (onto (old_pieces ps) [])) some.2
          (subst (StandBefore first (old_part part)) e is.stand) in
          let before = so.all (part ∷ ps) whole
          (subst (λ us. StandBefore first (us ++ old_pieces ps) []) (sym some.2)
          (stand_append first some.0 some.1 (old_pieces ps) [] there stand))
          (is.may, subst (λ b. MayAll any b ps) after may)
          (λ begins. subst (Stays any part) whole (is.stays begins), subst (λ b. AreFound any b ps) after found) in
          let same : new ++ onto (new_pieces ps) [] ≡ out ++ onto (new_pieces (part ∷ ps)) [] =
          ap (λ n. n ++ onto (new_pieces ps) []) push
          ∙ (append_assoc out (onto (new_part part) []) (onto (new_pieces ps) [])
          ∙ ap (λ t. out ++ t) (sym (onto_split (new_part part) (onto (new_pieces ps) []))
          ∙ sym (onto-append (new_part part) (new_pieces ps) []))) in
          (before.0, before.1, before.2, before.3, before.4, same ∙ before.5);
    }

pub makes_all : (any : Bool) (source : List ℕ) (first free : Bool) (rest out : List ℕ) → rest ≡ []
    → Makes any source first free rest out → IsCommented any source out
makes_all any source first free rest out none so =
    let all = so.all [] none tt tt tt in
    let is : out ≡ onto (new_pieces all.0) [] = sym (append-nil out) ∙ all.5 in
    let covers : IsCover (old_pieces all.0) source = record { whole = all.1; stand = all.2 } in
    rw is (record {
      parts = all.0;
      covers = covers;
      may = all.3;
      found = all.4;
      is = refl;
      covers_now = comments_cover any source all.0 covers all.3;
      tokens = comments_keep any source all.0 covers all.3;
    })

-- ---- an attribute

doc_stand : (first : Bool) (literal r : List ℕ) → IsLiteral literal (codes "]\n" ++ r)
    → StandBefore first (doc_pieces literal) r
doc_stand first literal r stands = (
  ((91, refl, refl), refl),
  (
    (refl, name_stands false (codes "doc") _ doc_name_built refl),
    (
      inl (32, refl, refl),
      (
        (refl, inl (((61, refl, refl), refl), refl)),
        (inl (32, refl, refl), ((refl, inl stands), ((93, refl, refl), (inl (10, refl, refl), tt)))),
      ),
    ),
  ),
)

attribute_stands : (first inner : Bool) (literal r : List ℕ) → IsLiteral literal (codes "]\n" ++ r)
    → StandBefore first (attribute_pieces inner literal) r
attribute_stands first true literal r stands = (
  (refl, inl (((35, refl, refl), refl), refl)),
  (inl (32, refl, refl), ((refl, inl (((33, refl, refl), refl), refl)), doc_stand false literal r stands)),
)
attribute_stands first false literal r stands =
    ((refl, inl (((35, refl, refl), refl), refl)), doc_stand false literal r stands)

-- an attribute that a comment can replace is a part
pub attribute_part : (any first free inner : Bool) (whole literal text rest : List ℕ) → free ≡ true
    → IsAttribute any whole inner literal text rest → CanHold any inner text
    → IsFirstPart any first free whole (Attribute inner literal text) rest
attribute_part any first free true whole literal text rest begins is can = record {
  whole = is.is;
  stand = attribute_stands first true literal rest is.stands;
  may = (begins, is.spells, can);
  stays = λ _. tt;
}
attribute_part any first free false whole literal text rest begins is can = record {
  whole = is.is;
  stand = attribute_stands first false literal rest is.stands;
  may = (begins, is.spells, can);
  stays = λ _. tt;
}

-- the comment is written as the pieces of its part
pub attribute_written : (out front doc_body end comment a b new : List ℕ) → a ≡ out ++ front → b ≡ a ++ doc_body
    → new ≡ b ++ end → front ++ (doc_body ++ end) ≡ comment ++ (10 ∷ []) → new ≡ out ++ (comment ++ (10 ∷ []))
attribute_written out front doc_body end comment a b new first second third is =
    third ∙ (ap (λ x. x ++ end) (second ∙ ap (λ x. x ++ doc_body) first)
    ∙ (append_assoc (out ++ front) doc_body end
    ∙ (append_assoc out front (doc_body ++ end) ∙ ap (λ x. out ++ x) is)))

-- ---- another piece

-- a piece is a part if no attribute that a comment can replace begins there
pub piece_part : (any first free now : Bool) (text front rest out new : List ℕ) (k : Kind) → text ≡ front ++ rest
    → IsPiece first k front rest → (free ≡ true → HasNoAttribute any text)
    → now ≡ (is_white_gap (k, front) && (free || begins_with (codes "\n") front)) → new ≡ out ++ front
    → (part : Part) × IsFirstPart any first free text part rest × (now ≡ is_free free part)
    × (new ≡ out ++ onto (new_part part) [])
piece_part any first free now text front rest out new k whole stands none after push =
    elim (cases_Bool (is_white_gap (k, front))) [
      | inl white ↦
          let gap = gap_is first (k, front) rest stands white in (
            White gap.0,
            record {
              whole = whole ∙ ap (λ x. x.1 ++ rest) gap.1;
              stand = (inl (gap.0, refl, gap.2), tt);
              may = gap.2;
              stays = λ _. tt;
            },
            after ∙ (ap (λ b. b && (free || begins_with (codes "\n") front)) white
                ∙ ap (λ x. free || begins_with (codes "\n") x.1) gap.1),
            push ∙ ap (λ x. out ++ x.1) gap.1,
          )
      | inr solid ↦ (
        Kept (k, front),
        record { whole = whole; stand = (stands, tt); may = tt; stays = none },
        after ∙ ap (λ b. b && (free || begins_with (codes "\n") front)) solid,
        push ∙ ap (λ x. out ++ x) (sym (append-nil front)),
      )
    ]

-- ---- each step makes the rest shorter

pieces_shorten : (first : Bool) (x : Piece) (us : List Piece) (r : List ℕ) → StandBefore first (x ∷ us) r
    → length r < length (onto (x ∷ us) r)
pieces_shorten first x [] r h = piece_shortens first x.0 x.1 r h.0
pieces_shorten first x (y ∷ us) r h =
    omega (arith, piece_shortens first x.0 x.1 (onto (y ∷ us) r) h.0, pieces_shorten false y us r h.1)

pub part_shortens : (any first free : Bool) (text rest : List ℕ) (part : Part)
    → IsFirstPart any first free text part rest → length rest < length text
part_shortens any first free text rest part is =
    let some = some_piece part in
    subst (λ t. length rest < length t) (sym (is.whole ∙ ap (λ us. onto us rest) some.2))
    (pieces_shorten first some.0 some.1 rest (subst (λ us. StandBefore first us rest) some.2 is.stand))
