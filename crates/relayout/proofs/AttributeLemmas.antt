-- Whether a text begins with a doc attribute that a comment can replace.
use Rattle.std.proofs.Common.{◌≡◌, ℕ, Bool, true, false, List, [], ◌∷◌, ◌++◌, codes, refl}
use Rattle.std.proofs.Common.{sym, ap, ap₂, ◌∙◌, subst, inl, inr, ◌==◌, drop}
use Rattle.std.specs.Prelude.{Result, Ok, Err, Option, Some, None, IfOk, MatchOption}
use Rattle.std.proofs.lemmas.Bool.{both_ways}
use Rattle.lexical.specs.Literal.{AnyLiteral, Literal as IsLiteral}
use Rattle.lexical.specs.Literal as literals
use Rattle.lexical.specs.Piece.{Leaf}
use Rattle.lexical.specs.Text.{begins_with, first_passes}
use Rattle.lexical.specs.Token.{Literal}
use Rattle.lexical.proofs.PieceLemmas.{one_piece}
use Rattle.grammar_laws.proofs.LiteralLemmas.{quoted_stable}
use Rattle.grammar_laws.proofs.IntegerLemmas.{number_before_stop}
use Rattle.pm_token.specs.Escaped.{string_text}
use Rattle.pm_token.specs.LiteralText.{IsWholeLiteral}
use Rattle.pm_token.specs.Text.{IsText}
use Rattle.pm_token.specs.Value.{str_value}
use Rattle.pm_token.specs.declared.literals.conversion.ConversionErrorKind.{ConversionErrorKind}
use Rattle.pm_token.proofs.EscapedLemmas.{doc_built}
use Rattle.pm_token.proofs.ValueLawLemmas.{strings_come_back}
use Rattle.proc_macro2.proofs.PieceStarts.{literal_stands}
use Rattle.relayout.specs.Commented.{CanHold, Spells, attribute_front}
use Rattle.relayout.specs.Comments.{HasNoAttribute, IsAttribute}

-- ---- string literals

-- a literal that begins with a quote is a correct one
quoted_literal : (p r : List ℕ) → first_passes (λ c. c == 34) p ≡ true → AnyLiteral p r → IsLiteral p r
quoted_literal p r quote (inl literal) = literal
quoted_literal p r quote (inr error) =
    absurd (both_ways false refl (sym (ap (first_passes (λ c. c == 34)) error) ∙ quote))

-- the literal that is written for a text is a literal before `]`
pub string_stands : (text r : List ℕ) → IsText text → IsLiteral (string_text text) (93 ∷ r)
string_stands text r all =
    quoted_literal (string_text text) (93 ∷ r) refl
    (literal_stands (string_text text) (93 ∷ r) (doc_built text all) refl)

-- at most one literal begins a text
one_literal : (p q r s : List ℕ) → IsLiteral p r → IsLiteral q s → p ++ r ≡ q ++ s → p ≡ q
one_literal p q r s h j e =
    (one_piece false (Leaf (Literal p)) (Leaf (Literal q)) p q r s (refl, inl h) (refl, inl j) e).1

-- no literal before `]` and LF begins the text, if something else follows the literal that does
pub literal_ends : (text p r : List ℕ) → IsLiteral p r → text ≡ p ++ r → begins_with (codes "]\n") r ≡ false
    → (q s : List ℕ) → IsLiteral q (codes "]\n" ++ s) → text ≡ q ++ (codes "]\n" ++ s) → ⊥
literal_ends text p r h split none q s j other =
    let same = one_piece false (Leaf (Literal p)) (Leaf (Literal q)) p q r _ (refl, inl h) (refl, inl j)
    (sym split ∙ other) in
    both_ways _ none (ap (begins_with (codes "]\n")) same.2)

-- the text begins with a literal before `]` and LF, if these two follow the literal
pub literal_split : (text p r own after rest : List ℕ) → IsLiteral p r → text ≡ p ++ r → own ≡ p → after ≡ r
    → after ≡ codes "]\n" ++ rest
    → IsLiteral own (codes "]\n" ++ rest) × (text ≡ own ++ (codes "]\n" ++ rest))
literal_split text p r own after rest h split is at ends =
    let left : r ≡ codes "]\n" ++ rest = sym at ∙ ends in (
      subst (λ q. IsLiteral q (codes "]\n" ++ rest)) (sym is) (subst (IsLiteral p) left h),
      split ∙ ap₂ (λ q s. q ++ s) (sym is) left,
    )

-- a literal is also one at the end of a text
pub literal_alone : (p r : List ℕ) → IsLiteral p r → IsWholeLiteral p
unfolding literals.Literal
literal_alone p r (inl quoted) = inl (inl (quoted_stable p [] r [] refl quoted))
literal_alone p r (inr number) = inl (inr (number_before_stop p r [] refl number))

-- two texts with the same literal are equal
one_text : (t u : List ℕ) → IsText t → IsText u → string_text t ≡ string_text u → t ≡ u
one_text t u all more same =
    let e : ◌≡◌ {A = Result (List ℕ) ConversionErrorKind} (Ok t) (Ok u) =
    sym (strings_come_back t all) ∙ (ap str_value same ∙ strings_come_back u more) in
    cc

-- the text that is found for a literal has that literal
pub text_found : {A E : Type 0} (literal v : List ℕ) (P Q : A → Type 0) (r : Result (Option A) E)
    → str_value literal ≡ Ok v → ((x : A) → P x → Q x)
    → IfOk r (λ found. MatchOption found (literal ≡ string_text v → ⊥) P)
    → IfOk r (λ found. MatchOption found ((text : List ℕ) → IsText text → literal ≡ string_text text → ⊥) Q)
text_found literal v P Q (Ok None) value more none = λ text all same.
    let e : ◌≡◌ {A = Result (List ℕ) ConversionErrorKind} (Ok text) (Ok v) =
    sym (strings_come_back text all) ∙ (ap str_value (sym same) ∙ value) in
    let is : text ≡ v = cc in
    none (same ∙ ap string_text is)
text_found literal v P Q (Ok (Some x)) value more h = more x h
text_found literal v P Q (Err e) value more h = tt

-- a literal spells at most one text
pub one_spelled : (any : Bool) (p t u : List ℕ) → IsText t → IsText u → Spells any p t → Spells any p u → t ≡ u
one_spelled false p t u all more one other = one_text t u all more (sym one ∙ other)
one_spelled true p t u all more one other =
    let e : ◌≡◌ {A = Result (List ℕ) ConversionErrorKind} (Ok t) (Ok u) = sym one.1 ∙ other.1 in
    cc

-- the literal that is written for a text spells it
pub string_spells : (any : Bool) (text : List ℕ) → IsText text → Spells any (string_text text) text
string_spells false text all = refl
string_spells true text all = (all, strings_come_back text all)

-- a literal without a string value spells no text
pub no_value : (any : Bool) (literal : List ℕ) (error : ConversionErrorKind) → str_value literal ≡ Err error
    → (text : List ℕ) → IsText text → Spells any literal text → ⊥
no_value false literal error value text all same =
    let clash : ◌≡◌ {A = Result (List ℕ) ConversionErrorKind} (Ok text) (Err error) =
    sym (strings_come_back text all) ∙ (ap str_value (sym same) ∙ value) in
    cc
no_value true literal error value text all same =
    let clash : ◌≡◌ {A = Result (List ℕ) ConversionErrorKind} (Ok text) (Err error) = sym same.1 ∙ value in
    cc

-- ---- attributes

-- the two kinds of attributes begin with different prefixes
after_front : (inner other : Bool) (x y : List ℕ) → attribute_front inner ++ x ≡ attribute_front other ++ y
    → (inner ≡ other) × (x ≡ y)
after_front true true x y e = (refl, ap (drop 10) e)
after_front true false x y e = absurd (both_ways false refl (ap (begins_with (codes "#[")) e))
after_front false true x y e = absurd (both_ways false refl (sym (ap (begins_with (codes "#[")) e)))
after_front false false x y e = (refl, ap (drop 8) e)

-- a text that begins with neither prefix begins with no attribute, inner or outer
pub neither_front : (whole : List ℕ) → begins_with (codes "#[doc = ") whole ≡ false
    → begins_with (codes "# ![doc = ") whole ≡ false → (inner : Bool)
    → begins_with (attribute_front inner) whole ≡ false
neither_front whole outer inner true = inner
neither_front whole outer inner false = outer

pub no_front : (any : Bool) (whole : List ℕ) → ((inner : Bool) → begins_with (attribute_front inner) whole ≡ false)
    → HasNoAttribute any whole
no_front any whole none true literal text rest all is can =
    both_ways _ (none true) (ap (begins_with (attribute_front true)) is.is)
no_front any whole none false literal text rest all is can =
    both_ways _ (none false) (ap (begins_with (attribute_front false)) is.is)

pub no_literal : (any : Bool) (whole after : List ℕ) (other : Bool) → whole ≡ attribute_front other ++ after
    → ((p r : List ℕ) → IsLiteral p (codes "]\n" ++ r) → after ≡ p ++ (codes "]\n" ++ r) → ⊥)
    → HasNoAttribute any whole
no_literal any whole after other front none inner literal text rest all is can =
    none literal rest is.stands (after_front other inner after _ (sym front ∙ is.is)).1

-- no attribute that a comment can replace begins there, if the literal after the prefix spells no text
pub no_text : (any : Bool) (whole after literal more : List ℕ) (other : Bool) → whole ≡ attribute_front other ++ after
    → IsLiteral literal (codes "]\n" ++ more) → after ≡ literal ++ (codes "]\n" ++ more)
    → ((text : List ℕ) → IsText text → Spells any literal text → ⊥) → HasNoAttribute any whole
no_text any whole after literal more other front stands split none inner p text rest all is can =
    let same = one_literal literal p _ _ stands is.stands
    (sym split ∙ (after_front other inner after _ (sym front ∙ is.is)).1) in
    none text all (subst (λ q. Spells any q text) (sym same) is.spells)

-- no attribute that a comment can replace begins there, if no comment can hold the text of the one that does
pub no_form : (any : Bool) (whole literal doc_body rest : List ℕ) (inner : Bool)
    → IsAttribute any whole inner literal doc_body rest → IsText doc_body → (CanHold any inner doc_body → ⊥)
    → HasNoAttribute any whole
no_form any whole literal doc_body rest inner attribute all fails other p text more all_text is can =
    let at = after_front inner other _ _ (sym attribute.is ∙ is.is) in
    let same = one_literal literal p _ _ attribute.stands is.stands at.1 in
    let text_is : text ≡ doc_body = one_spelled any literal text doc_body all_text all
    (subst (λ q. Spells any q text) (sym same) is.spells) attribute.spells in
    fails (subst (λ t. CanHold any inner t) text_is (subst (λ b. CanHold any b text) (sym at.0) can))
