-- The printed text follows the printer's rule.
use Rattle.std.proofs.Common.{◌≡◌, ℕ, Bool, true, false, List, [], ◌++◌, refl, ap, ap₂, ◌∙◌, append_assoc}
use Rattle.lexical.specs.Token.{token_text}
use Rattle.pm_token.specs.declared.delimiters.Delimiter.{Delimiter}
use Rattle.pm_token.specs.declared.delimiters.Delimiter.TheVariants.{Parenthesis, Brace, Bracket, None}
use Rattle.pm_stream.specs.Delimited.{opening, closing, is_brace}
use Rattle.pm_stream.specs.Forest.{Forest, nil, leaf, group}
use Rattle.pm_stream.specs.Printed.{parts, space, printed_after, printed}
use Rattle.pm_stream.specs.PrinterRule.{separator, text_of_group, text_by_rule}
use Rattle.pm_stream.specs.Size.{is_nil}

no_separator : (f : Forest) → separator false f ≡ []
no_separator nil = refl
no_separator (leaf t lo hi f) = refl
no_separator (group d lo hi f g) = refl

-- the text of a group, and then other text
enclosed_same : (d : Delimiter) (inside : Forest) (text more : List ℕ) → (is_nil inside ≡ true → text ≡ [])
    → opening d ++ ((separator (is_brace d) inside ++ text) ++ (space (is_brace d) ++ (closing d ++ more)))
    ≡ text_of_group d (is_nil inside) text ++ more
enclosed_same Parenthesis f text more empty = rw (no_separator f) (simp append_assoc refl)
enclosed_same Brace nil text more empty = rw (empty refl) refl
enclosed_same Brace (leaf t lo hi f) text more empty = simp append_assoc refl
enclosed_same Brace (group d lo hi f g) text more empty = simp append_assoc refl
enclosed_same Bracket f text more empty = rw (no_separator f) (simp append_assoc refl)
enclosed_same None f text more empty = rw (no_separator f) refl

ruled-nil : (f : Forest) → is_nil f ≡ true → text_by_rule f ≡ []
ruled-nil nil e = refl
ruled-nil (leaf t lo hi f) e = cc
ruled-nil (group d lo hi f g) e = cc

printed_after-ruled : (gap : Bool) (f : Forest) → printed_after gap f ≡ separator gap f ++ text_by_rule f
printed_after-ruled gap nil = refl
printed_after-ruled gap (leaf t lo hi f) = ap (λ l. space gap ++ (token_text t ++ l)) (printed_after-ruled (parts t) f)
printed_after-ruled gap (group d lo hi f g) =
    ap (λ l. space gap ++ l)
    (ap₂ (λ x y. opening d ++ (x ++ (space (is_brace d) ++ (closing d ++ y)))) (printed_after-ruled (is_brace d) f)
    (printed_after-ruled true g)
    ∙ enclosed_same d f (text_by_rule f) (separator true g ++ text_by_rule g) (ruled-nil f))

pub printed-ruled : (f : Forest) → printed f ≡ text_by_rule f
printed-ruled nil = refl
printed-ruled (leaf t lo hi f) = printed_after-ruled false (leaf t lo hi f)
printed-ruled (group d lo hi f g) = printed_after-ruled false (group d lo hi f g)
