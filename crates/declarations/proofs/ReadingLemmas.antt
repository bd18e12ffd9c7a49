-- Signs of several trees, one list after the other.
use Rattle.std.proofs.Common.{◌≡◌, refl, sym, ◌∙◌, ap, List, [], ◌∷◌, ◌++◌}
use Rattle.std.proofs.Common.{append_assoc}
use Rattle.declarations.specs.Signs.{Sign, classes_of, trees_of}

pub classes-append : (front back : List Sign) → classes_of (front ++ back) ≡ classes_of front ++ classes_of back
classes-append [] back = refl
classes-append (sign ∷ front) back = ap (λ cs. sign.class ∷ cs) (classes-append front back)

pub trees-append : (front back : List Sign) → trees_of (front ++ back) ≡ trees_of front ++ trees_of back
trees-append [] back = refl
trees-append (sign ∷ front) back =
    ap (λ ts. sign.trees ++ ts) (trees-append front back)
    ∙ sym (append_assoc sign.trees (trees_of front) (trees_of back))

-- two prefixes of the same signs with the same classes are the same
pub same_front : (p q r s : List Sign) → p ++ r ≡ q ++ s → classes_of p ≡ classes_of q → p ≡ q
same_front [] [] r s whole same = refl
same_front [] (b ∷ q) r s whole same = cc
same_front (a ∷ p) [] r s whole same = cc
same_front (a ∷ p) (b ∷ q) r s whole same =
    let first : a ≡ b = cc in
    let rest : p ++ r ≡ q ++ s = cc in
    let classes : classes_of p ≡ classes_of q = cc in
    let more = same_front p q r s rest classes in
    cc
