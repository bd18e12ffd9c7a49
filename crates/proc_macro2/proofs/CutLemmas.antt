-- A line feed is put in after some pieces.
use Rattle.std.proofs.Common.{◌≡◌, ℕ, ◌⊎◌, Bool, true, false, not, ◌==◌, List, [], ◌∷◌, ◌++◌, codes, refl, sym, ap, ◌∙◌}
use Rattle.std.proofs.Common.{subst, inl, inr, append_assoc}
use Rattle.std.proofs.lemmas.Bool.{both_ways}
use Rattle.std.specs.List.{list_all}
use Rattle.lexical.specs.Class.{is_ident_continue}
use Rattle.lexical.specs.Text.{begins_any, first_passes}
use Rattle.lexical.specs.Token.{Name, Mark, Literal, raw_front}
use Rattle.lexical.specs.Identifier.{Name as IsName, Identifier, literal_prefixes}
use Rattle.lexical.specs.Mark.{comment_fronts, bars_quote, joint_before, FollowsQuote}
use Rattle.lexical.specs.Delimiter.{error_literal}
use Rattle.lexical.specs.Quiet.{ends_quiet}
use Rattle.lexical.specs.Piece.{Kind, Piece, FrontMark, Gap, Doc, Open, Close, Leaf, Stands, IsPiece}
use Rattle.lexical.specs.Cover.{onto, StandBefore}
use Rattle.lexical.proofs.TextLemmas.{any_cut}
use Rattle.grammar_laws.proofs.LeafLaws.{plain_line, doc_line, comment_cut, doc_cut, identifier_before_stop}
use Rattle.grammar_laws.proofs.LeafLaws.{mark_before_stop, stop_alone, stop_unbarred, quote_unbarred, quote_next}
use Rattle.grammar_laws.proofs.LeafLaws.{follows_something, IsNameOrLiteral, literal_before_stop, onto_split}
use Rattle.grammar_laws.proofs.LeafLaws.{literal_cut}
use Rattle.grammar_laws.proofs.LeafLaws.{literal_quoted, prefixed_follows}
use Rattle.grammar_laws.proofs.CommentLemmas.{plain_stays}
use Rattle.lexical.proofs.PieceFacts.{piece_not_empty}
use Rattle.grammar_laws.proofs.NameLemmas.{name_before}
use Rattle.proc_macro2.proofs.PieceStarts.{joint_by}

-- whether nothing follows the pieces, or a line may be broken after them
abbrev pub MayBreak : List Piece → List ℕ → Type 0
MayBreak us v = (v ≡ []) ⊎ (ends_quiet us ≡ true)

-- a text that begins with none of these also begins with none of them if a line feed is put in
any_line : (fronts : List (List ℕ)) (p : List ℕ) (us : List Piece) (v w : List ℕ)
    → list_all (list_all (λ c. not (c == 10))) fronts ≡ true
    → begins_any fronts (p ++ onto us v) ≡ false → begins_any fronts (p ++ onto us (10 ∷ w)) ≡ false
any_line fronts p us v w none h =
    let far : (t : List ℕ) → p ++ onto us t ≡ (p ++ onto us []) ++ t =
    λ t. ap (λ r. p ++ r) (onto_split us t) ∙ sym (append_assoc p (onto us []) t) in
    ap (begins_any fronts) (far (10 ∷ w))
    ∙ any_cut (λ c. not (c == 10)) fronts (p ++ onto us []) v (10 ∷ w) none refl
    (ap (begins_any fronts) (sym (far v)) ∙ h)

-- the first character of a piece does not change
first_stays : (f : ℕ → Bool) (x : Piece) (us : List Piece) (v w : List ℕ) → IsPiece false x.0 x.1 (onto us v)
    → first_passes f (onto (x ∷ us) v) ≡ first_passes f (onto (x ∷ us) w)
first_stays f x us v w h =
    let first = piece_not_empty false x.0 x.1 (onto us v) h in
    ap (λ p. first_passes f (p ++ onto us v)) first.2 ∙ sym (ap (λ p. first_passes f (p ++ onto us w)) first.2)

-- ---- the last piece

cut_mark : (c : ℕ) (joint : Bool) (v w : List ℕ) → v ≡ [] → Stands (Mark c joint) v → Stands (Mark c joint) (10 ∷ w)
cut_mark c joint v w e (inl h) =
    inl (mark_before_stop c v (10 ∷ w) refl h.0, h.1 ∙ (ap joint_before e ∙ sym (stop_alone (10 ∷ w) refl)))
cut_mark c joint v w e (inr h) = absurd (follows_something (subst FollowsQuote e h.0.1))

cut_last : (b : Bool) (k : Kind) (p v w : List ℕ) → IsPiece b k p v → MayBreak ((k, p) ∷ []) v → IsPiece b k p (10 ∷ w)
cut_last b FrontMark p v w h q = h
cut_last b Gap p v w (inl h) q = inl h
cut_last b Gap p v w (inr h) q = inr (plain_line p v w h)
cut_last b (Doc inner text) p v w h q = doc_line inner text p v w h
cut_last b (Open c) p v w h q = (h.0, any_line (error_literal ∷ []) p [] v w refl h.1)
cut_last b (Close c) p v w h q = h
cut_last b (Leaf (Name raw name)) p v w h q = (h.0, identifier_before_stop raw name v (10 ∷ w) refl h.1)
cut_last b (Leaf (Mark c joint)) p v w h (inl e) = (h.0, cut_mark c joint v w e h.1)
cut_last b (Leaf (Mark c joint)) p v w h (inr e) = absurd (both_ways false refl e)
cut_last b (Leaf (Literal text)) p v w h q = (h.0, literal_before_stop text v (10 ∷ w) refl h.1)

-- ---- a piece before others

-- the identifier after `'` is still the piece there, and what follows still allows the `'`
follows_cut : (x : Piece) (us : List Piece) (v w : List ℕ) → FollowsQuote (onto (x ∷ us) v)
    → StandBefore false (x ∷ us) v
    → StandBefore false (x ∷ us) (10 ∷ w) → FollowsQuote (onto (x ∷ us) (10 ∷ w))
follows_cut (k, p) us v w f old new = by_kind (quote_next false k p (onto us v) old.0 f)
  where
    after : (raw : Bool) (us : List Piece) → StandBefore false us v → first_passes (bars_quote raw) (onto us v) ≡ false
        → first_passes (bars_quote raw) (onto us (10 ∷ w)) ≡ false
    after raw [] s e = stop_unbarred raw (10 ∷ w) refl
    after raw (y ∷ us) s e = sym (first_stays (bars_quote raw) y us v (10 ∷ w) s.0) ∙ e

    by_kind : IsNameOrLiteral k → FollowsQuote (p ++ onto us (10 ∷ w))
    by_kind (inl (raw, name, is)) =
        let was : IsPiece false (Leaf (Name raw name)) p (onto us v) =
        subst (λ x. IsPiece false x p (onto us v)) is old.0 in
        let now : IsPiece false (Leaf (Name raw name)) p (onto us (10 ∷ w)) =
        subst (λ x. IsPiece false x p (onto us (10 ∷ w))) is new.0 in
        let far : (t : List ℕ) → p ++ t ≡ raw_front raw ++ (name ++ t) =
        λ t. ap (λ x. x ++ t) was.0 ∙ append_assoc (raw_front raw) name t in
        let bars = quote_unbarred raw name (onto us v) was.1.0 (subst FollowsQuote (far (onto us v)) f) in
        record {
          raw = raw;
          name = name;
          rest = onto us (10 ∷ w);
          whole = far (onto us (10 ∷ w));
          named = now.1.0;
          unbarred = after raw us old.1 bars;
        }
    by_kind (inr (text, is)) =
        let was : IsPiece false (Leaf (Literal text)) p (onto us v) =
        subst (λ x. IsPiece false x p (onto us v)) is old.0 in
        let fronts = literal_quoted text (onto us v) was.1 (subst (λ x. FollowsQuote (x ++ onto us v)) was.0 f) in
        subst (λ x. FollowsQuote (x ++ onto us (10 ∷ w))) (sym was.0) (prefixed_follows text (onto us (10 ∷ w)) fronts)

-- a name stays one if the first character after it does not change
name_same : (p r s : List ℕ) → ((f : ℕ → Bool) → first_passes f r ≡ first_passes f s) → IsName p r → IsName p s
name_same p r s same h = name_before p r s (sym (same is_ident_continue) ∙ h.second.stops) h

identifier_cut : (raw : Bool) (name : List ℕ) (x : Piece) (us : List Piece) (v w : List ℕ)
    → StandBefore false (x ∷ us) v
    → Identifier raw name (onto (x ∷ us) v) → Identifier raw name (onto (x ∷ us) (10 ∷ w))
identifier_cut true name x us v w old h = (
  (name_same name _ _ (λ f. first_stays f x us v (10 ∷ w) old.0) h.0.0, h.0.1),
  any_line literal_prefixes (codes "r#" ++ name) (x ∷ us) v w refl h.1,
)
identifier_cut false name x us v w old h = (
  (
    name_same name _ _ (λ f. first_stays f x us v (10 ∷ w) old.0) h.0.0,
    any_line (codes "r#" ∷ []) name (x ∷ us) v w refl h.0.1,
  ),
  any_line literal_prefixes name (x ∷ us) v w refl h.1,
)

mark_cut : (c : ℕ) (joint : Bool) (x : Piece) (us : List Piece) (v w : List ℕ) → StandBefore false (x ∷ us) v
    → StandBefore false (x ∷ us) (10 ∷ w) → Stands (Mark c joint) (onto (x ∷ us) v)
    → Stands (Mark c joint) (onto (x ∷ us) (10 ∷ w))
mark_cut c joint x us v w old new (inl h) = inl (
  (h.0.0, any_line comment_fronts (c ∷ []) (x ∷ us) v w refl h.0.1),
  h.1 ∙ (joint_by false x.0 x.1 (onto us v) old.0 ∙ sym (joint_by false x.0 x.1 (onto us (10 ∷ w)) new.0)),
)
mark_cut c joint x us v w old new (inr h) = inr ((h.0.0, follows_cut x us v w h.0.1 old new), h.1)

cut_piece : (b : Bool) (k : Kind) (p : List ℕ) (x : Piece) (us : List Piece) (v w : List ℕ) → MayBreak (x ∷ us) v
    → IsPiece b k p (onto (x ∷ us) v) → StandBefore false (x ∷ us) v → StandBefore false (x ∷ us) (10 ∷ w)
    → IsPiece b k p (onto (x ∷ us) (10 ∷ w))
cut_piece b FrontMark p x us v w q h old new = h
cut_piece b Gap p x us v w q (inl h) old new = inl h
cut_piece b Gap p x us v w q (inr h) old new =
    inr (plain_stays p _ _ (comment_cut p _ _ (λ f. first_stays f x us v (10 ∷ w) old.0) h.0) h)
cut_piece b (Doc inner text) p x us v w q h old new =
    doc_cut inner text p _ _ (λ f. first_stays f x us v (10 ∷ w) old.0) h
cut_piece b (Open c) p x us v w q h old new = (h.0, any_line (error_literal ∷ []) p (x ∷ us) v w refl h.1)
cut_piece b (Close c) p x us v w q h old new = h
cut_piece b (Leaf (Name raw name)) p x us v w q h old new = (h.0, identifier_cut raw name x us v w old h.1)
cut_piece b (Leaf (Mark c joint)) p x us v w q h old new = (h.0, mark_cut c joint x us v w old new h.1)
cut_piece b (Leaf (Literal text)) p x us v w q h old new = (h.0, literal_cut text (x ∷ us) v (10 ∷ w) refl q h.1 old)

-- ---- all pieces

pub stand_cut : (b : Bool) (us : List Piece) (v w : List ℕ) → MayBreak us v → StandBefore b us v
    → StandBefore b us (10 ∷ w)
stand_cut b [] v w q h = tt
stand_cut b (x ∷ []) v w q h = (cut_last b x.0 x.1 v w h.0 q, tt)
stand_cut b (x ∷ (y ∷ us)) v w q h =
    let more = stand_cut false (y ∷ us) v w q h.1 in
    (cut_piece b x.0 x.1 y us v w q h.0 h.1 more, more)
