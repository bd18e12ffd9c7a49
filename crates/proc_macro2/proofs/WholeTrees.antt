-- Trees of a stream go into another stream whole.
use Rattle.std.proofs.Common.{◌≡◌, ◌==◌, ℕ, false, List, [], ◌∷◌, inl, inr, refl, sym, ap, ◌∙◌, eqb-true}
use Rattle.std.proofs.Common.{if◌then◌else◌}
use Rattle.std.proofs.lemmas.Bool.{both_ways, false_from_ne_true}
use Rattle.lexical.specs.Literal as literals
use Rattle.lexical.specs.Literal.{AnyLiteral}
use Rattle.lexical.specs.Quoted.{is_one_of}
use Rattle.lexical.proofs.LiteralFinderLemmas.{literal_front, literal_fronts}
use Rattle.pm_token.specs.Negative.{has_minus, minus_of, number_of}
use Rattle.pm_stream.specs.Building.{split}
use Rattle.pm_stream.specs.Trees.{GoesInside, alone, before}
use Rattle.pm_stream.specs.declared.stream.TokenTree.{TokenTree}
use Rattle.pm_stream.specs.declared.stream.TokenTree.TheVariants.{Group, Ident, Punct, Literal}

-- no literal of the grammar begins with `-`
no_minus : (text : List ℕ) → AnyLiteral text [] → has_minus text ≡ false
no_minus [] is = refl
no_minus (c ∷ text) (inl literal) =
    let at = literal_front (c ∷ text) [] literal in
    let head : c ≡ at.0 = cc in
    false_from_ne_true (c == 45) (λ minus.
    both_ways (is_one_of literal_fronts 45) refl
    (ap (is_one_of literal_fronts) (sym (eqb-true c 45 minus) ∙ head) ∙ at.3))
no_minus (c ∷ text) (inr error) = ap has_minus error

pub stands_whole : (tree : TokenTree) → GoesInside tree → split tree ≡ alone tree
unfolding literals.IsLiteralToken
stands_whole (Group g) is = refl
stands_whole (Ident i) is = refl
stands_whole (Punct p) is = refl
stands_whole (Literal l) is =
    ap (λ b. if b then before (Punct (minus_of l)) (alone (Literal (number_of l))) else alone (Literal l))
    (no_minus l.text is)
