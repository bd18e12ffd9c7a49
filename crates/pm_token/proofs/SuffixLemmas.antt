-- If a quote ends a literal, the literal has no suffix, and its content is the body of the grammar.
use Rattle.std.proofs.Common.{◌≡◌, ℕ, true, false, List, [], ◌∷◌, ◌++◌, arith, codes, append-nil, refl, sym, ap, ap₂}
use Rattle.std.proofs.Common.{◌∙◌, subst₂, inl, inr, eqb-true}
use Rattle.std.specs.List.{list_all}
use Rattle.std.proofs.lemmas.Bool.{and_parts, both_ways}
use Rattle.std.proofs.lemmas.List.{append_cancel_left, append_cancel_right}
use Rattle.lexical.specs.Class.{is_ident_continue, is_ident_start}
use Rattle.lexical.specs.Form.{Form, Many}
use Rattle.lexical.specs.Quoted.{Cooked, Suffix}
use Rattle.lexical.specs.Text.{ends_with}
use Rattle.lexical.proofs.ClassLemmas.{ident_continue_ascii, ident_start_ascii}
use Rattle.lexical.proofs.TextLemmas.{ends_back}

-- joined texts end as the second of them does
ends_append : (c : ℕ) (front : List ℕ) (d : ℕ) (back : List ℕ)
    → ends_with c (front ++ (d ∷ back)) ≡ ends_with c (d ∷ back)
ends_append c [] d back = refl
ends_append c (x ∷ []) d back = refl
ends_append c (x ∷ (y ∷ front)) d back = ends_append c (y ∷ front) d back

-- no identifier has this character
record IsNoName (quote : ℕ) : Type 0 where
  no_start : is_ident_start quote ≡ false
  no_continue : is_ident_continue quote ≡ false

-- the rest of an identifier does not end with this character
continues_plain : (quote : ℕ) → IsNoName quote → (text : List ℕ) → list_all is_ident_continue text ≡ true
    → ends_with quote text ≡ true → ⊥
continues_plain quote out [] all ends = both_ways false refl ends
continues_plain quote out (c ∷ []) all ends =
    both_ways (is_ident_continue quote) out.no_continue
    (ap is_ident_continue (sym (eqb-true c quote ends)) ∙ (and_parts (is_ident_continue c) true all).0)
continues_plain quote out (c ∷ (d ∷ text)) all ends =
    continues_plain quote out (d ∷ text) (and_parts (is_ident_continue c) _ all).1 ends

name_plain : (quote : ℕ) → IsNoName quote → (c : ℕ) (text : List ℕ) → is_ident_start c ≡ true
    → list_all is_ident_continue text ≡ true
    → ends_with quote (c ∷ text) ≡ true → ⊥
name_plain quote out c [] start all ends =
    both_ways (is_ident_start quote) out.no_start (ap is_ident_start (sym (eqb-true c quote ends)) ∙ start)
name_plain quote out c (d ∷ text) start all ends = continues_plain quote out (d ∷ text) all ends

-- if a quote ends the text, no suffix follows the closing quote
no_suffix_after : (quote : ℕ) → IsNoName quote → (body suffix r : List ℕ) → Suffix suffix r
    → ends_with quote (body ++ (quote ∷ suffix)) ≡ true
    → suffix ≡ []
no_suffix_after quote out body suffix r (inr (none, nothing)) ends = nothing
no_suffix_after quote out body suffix r (inl name) ends =
    let c = name.first.0 in
    let text : suffix ≡ c ∷ name.back = name.whole ∙ ap (λ x. x ++ name.back) name.first.1 in
    let last : ends_with quote (c ∷ name.back) ≡ true =
    sym (ends_append quote body quote (c ∷ name.back))
    ∙ (ap (λ s. ends_with quote (body ++ (quote ∷ s))) (sym text) ∙ ends) in
    absurd (name_plain quote out c name.back name.first.2 name.second.each last)

double_out : IsNoName 34
double_out = record {
  no_start = ident_start_ascii 34 (omega arith);
  no_continue =
      ident_continue_ascii 34 (omega arith);
}

single_out : IsNoName 39
single_out = record {
  no_start = ident_start_ascii 39 (omega arith);
  no_continue =
      ident_continue_ascii 39 (omega arith);
}

-- if a single quote ends the text, no suffix follows the closing one
pub no_single_suffix : (body suffix r : List ℕ) → Suffix suffix r → ends_with 39 (body ++ (39 ∷ suffix)) ≡ true
    → suffix ≡ []
no_single_suffix = no_suffix_after 39 single_out

-- the body of the grammar is the text before the quote at the end
body_same : (body content suffix r : List ℕ) → Suffix suffix r
    → body ++ (34 ∷ suffix) ≡ content ++ codes "\"" → body ≡ content
body_same body content suffix r is same =
    let none = no_suffix_after 34 double_out body suffix r is (ap (ends_with 34) same ∙ ends_back 34 content) in
    append_cancel_right body content (codes "\"") (sym (ap (λ s. body ++ (34 ∷ s)) none) ∙ same)

-- the content is made of units of the grammar, up to the quote
pub content_units : (front content : List ℕ) (Unit : Form)
    → Cooked front Unit (front ++ (content ++ codes "\"")) [] → Many Unit content (codes "\"")
content_units front content Unit is =
    let end = is.second.second in
    let closing : is.second.back ≡ 34 ∷ end.back = end.whole ∙ ap (λ x. x ++ end.back) end.first in
    let back : is.back ≡ is.second.front ++ (34 ∷ end.back) = is.second.whole
    ∙ ap (λ x. is.second.front ++ x) closing in
    let same : is.second.front ++ (34 ∷ end.back) ≡ content ++ codes "\"" =
    append_cancel_left front _ _ (ap₂ (λ x y. x ++ y) (sym is.first) (sym back) ∙ sym is.whole) in
    let body = body_same is.second.front content end.back [] end.second same in
    let quote : 34 ∷ end.back ≡ codes
    "\"" = append_cancel_left content _ _ (ap (λ x. x ++ (34 ∷ end.back)) (sym body) ∙ same) in
    subst₂ (λ text r. Many Unit text r) body (append-nil is.second.back ∙ (closing ∙ quote)) is.second.first
