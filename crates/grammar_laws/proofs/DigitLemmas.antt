-- Pieces that begin with a digit, and the pieces into which a float with a dot is cut.
use Rattle.std.proofs.Common.{◌≡◌, ℕ, ◌<◌, Bool, true, false, not, List, [], ◌∷◌, ◌++◌, length, Some, refl, sym, ap}
use Rattle.std.proofs.Common.{◌∙◌, inl, inr, arith, length-append}
use Rattle.std.specs.List.{list_all}
use Rattle.std.specs.Char.{is_ascii_digit}
use Rattle.std.proofs.lemmas.Bool.{both_ways}
use Rattle.unicode_ident.proofs.Computing.{unicode_ident}
use Rattle.lexical.specs.Class.{is_ident_continue}
use Rattle.lexical.specs.Text.{first_passes}
use Rattle.lexical.specs.Form.{Run}
use Rattle.lexical.specs.Rule.{Then, Stands, find}
use Rattle.lexical.specs.Token as tokens
use Rattle.lexical.specs.Mark.{joint_before}
use Rattle.lexical.specs.Number.{Number, end, integer, number}
use Rattle.lexical.specs.Piece.{Kind, Piece, Leaf, IsPiece}
use Rattle.lexical.specs.Cover.{onto, StandBefore}
use Rattle.lexical.specs.Quiet.{is_quiet, ends_quiet}
use Rattle.lexical.specs.Finder.{find_run}
use Rattle.lexical.specs.PieceFinder.{literal_kind, find_piece}
use Rattle.lexical.specs.declared.class.PieceStart.TheVariants as starts
use Rattle.lexical.proofs.TextLemmas.{first_more}
use Rattle.lexical.proofs.FinderLemmas.{finds_run, found_is, one_split}
use Rattle.lexical.proofs.ClassLemmas.{start_digit}
use Rattle.lexical.proofs.NumberFinderLemmas.{finds_number}
use Rattle.lexical.proofs.PieceLemmas.{from_start, found_complete, one_piece}
use Rattle.lexical.proofs.PieceFacts.{piece_shortens}
use Rattle.grammar_laws.proofs.NameLemmas.{tagged_is}
use Rattle.grammar_laws.proofs.StableLemmas.{fronts_compared, passes_at}
use Rattle.grammar_laws.proofs.IntegerLemmas.{on_integer_end, number_ends}

-- ---- digits

-- a piece that begins with a digit is a number
pub digit_piece : (first : Bool) (k : Kind) (p r : List ℕ) → IsPiece first k p r
    → first_passes is_ascii_digit (p ++ r) ≡ true
    → (k ≡ Leaf (tokens.Literal p)) × Number p r
digit_piece first k p r h digit = by_text (p ++ r) digit (found_complete first k p r h)
  where
    by_text : (text : List ℕ) → first_passes is_ascii_digit text ≡ true → find_piece first text ≡ Some (k, p, r)
        → (k ≡ Leaf (tokens.Literal p)) × Number p r
    by_text [] digit e = absurd (both_ways _ refl digit)
    by_text (c ∷ text) digit e =
        let from = sym (from_start first (c ∷ text) c text starts.Digit refl (start_digit c digit)) ∙ e in
        let is = tagged_is literal_kind (find number (c ∷ text)) k p r from in
        (is.0, (found_is (find number) Number finds_number (c ∷ text) p r is.1).1)

-- pieces add to the length of a text, if the last one is neither a mark nor a number
pub quiet_longer : (us : List Piece) (v : List ℕ) → StandBefore false us v → ends_quiet us ≡ true
    → length v < length (onto us v)
quiet_longer [] v stand quiet = absurd (both_ways _ refl quiet)
quiet_longer (u ∷ []) v stand quiet = piece_shortens false u.0 u.1 v stand.0
quiet_longer (u ∷ (w ∷ us)) v stand quiet =
    omega (arith, quiet_longer (w ∷ us) v stand.1 quiet, piece_shortens false u.0 u.1 (onto (w ∷ us) v) stand.0)

-- ---- digits, a dot, and digits and letters

-- the pieces of a text of digits and letters are one number, so the last one is no other piece
pub number_last : (W v : List ℕ) (us : List Piece) → list_all is_ident_continue W ≡ true
    → first_passes is_ascii_digit W ≡ true
    → StandBefore false us v → ends_quiet us ≡ true → onto us v ≡ W ++ v → ⊥
number_last W v [] each digit stand quiet e = both_ways _ refl quiet
number_last W v (y ∷ us) each digit stand quiet e =
    let number = digit_piece false y.0 y.1 (onto us v) stand.0
    (ap (first_passes is_ascii_digit) e ∙ first_more is_ascii_digit W v digit) in
    elim (fronts_compared y.1 (onto us v) W v e) [
      | inl past ↦ by_rest us past.0 stand.1 quiet number.0 past.1 past.2
      | inr within ↦ both_ways _
          (ap (first_passes is_ident_continue) (sym within.3) ∙ number_ends y.1 (onto us v) number.1)
          (passes_at is_ident_continue W y.1 within.0 within.1 each within.2)
    ]
  where
    by_rest : (us : List Piece) (m : List ℕ) → StandBefore false us v → ends_quiet (y ∷ us) ≡ true
        → y.0 ≡ Leaf (tokens.Literal y.1)
        → y.1 ≡ W ++ m → v ≡ m ++ onto us v → ⊥
    by_rest [] m stand quiet kind text rest =
        both_ways _ (ap not (ap (first_passes is_ascii_digit) text ∙ first_more is_ascii_digit W m digit))
        (sym (ap is_quiet kind) ∙ quiet)
    by_rest (z ∷ us) m stand quiet kind text rest =
        omega (arith, ap length rest, length-append m (onto (z ∷ us) v), quiet_longer (z ∷ us) v stand quiet)

dot_stands : (r : List ℕ) → IsPiece false (Leaf (tokens.Mark 46 (joint_before r))) (46 ∷ []) r
dot_stands r = (refl, inl (((46, refl, refl), refl), refl))

-- the pieces after an integer and a dot
pub pieces_after_dot : (p D W v : List ℕ) (us : List Piece) → Stands (Then integer end) p (onto us v)
    → list_all is_ident_continue D ≡ true
    → StandBefore false us v → ends_quiet us ≡ true → p ++ onto us v ≡ D ++ (46 ∷ (W ++ v))
    → (later : List Piece) × StandBefore false later v × (ends_quiet later ≡ true) × (onto later v ≡ W ++ v)
unfolding unicode_ident
pieces_after_dot p D W v us int first stand quiet e =
    let same = one_split (find_run is_ident_continue) (Run is_ident_continue) (finds_run is_ident_continue) p D
    (onto us v) (46 ∷ (W ++ v))
    (record { each = on_integer_end p (onto us v) int; stops = int.second.1 })
    (record { each = first; stops = refl }) e in
    by_pieces us stand quiet same.1
  where
    dot : Kind
    dot = Leaf (tokens.Mark 46 (joint_before (W ++ v)))

    more : (x : Piece) (us : List Piece) → x.0 ≡ dot → ends_quiet (x ∷ us) ≡ true → ends_quiet us ≡ true
    more x [] kind quiet = sym (ap is_quiet kind) ∙ quiet
    more x (y ∷ us) kind quiet = quiet

    by_pieces : (us : List Piece) → StandBefore false us v → ends_quiet us ≡ true → onto us v ≡ 46 ∷ (W ++ v)
        → (later : List Piece) × StandBefore false later v × (ends_quiet later ≡ true) × (onto later v ≡ W ++ v)
    by_pieces [] stand quiet e = absurd (both_ways _ refl quiet)
    by_pieces (x ∷ us) stand quiet e =
        let one = one_piece false x.0 dot x.1 (46 ∷ []) (onto us v) (W ++ v) stand.0 (dot_stands (W ++ v)) e in
        (us, stand.1, more x us one.0 quiet, one.2)
