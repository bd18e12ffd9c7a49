-- Groups without delimiters.
use Rattle.std.proofs.Common.{◌≡◌, refl, sym, ◌∙◌, ap, subst, ◌<◌, ◌==◌, ◌&&◌, Bool, true, false, List, [], ◌∷◌}
use Rattle.std.proofs.Common.{Some, None, length, if◌then◌else◌, arith}
use Rattle.pm_stream.specs.DocGroup.{trees_of}
use Rattle.pm_stream.specs.Forest.{Forest, nil, leaf, group}
use Rattle.pm_stream.specs.Size.{count, is_nil}
use Rattle.pm_stream.specs.Trees.{forest}
use Rattle.pm_stream.specs.declared.stream.Group.{Group as Grouped}
use Rattle.pm_stream.specs.declared.stream.TokenTree.{TokenTree}
use Rattle.pm_stream.specs.declared.stream.TokenTree.TheVariants.{Group, Ident, Punct, Literal}
use Rattle.pm_stream.proofs.DocLemmas.{trees_of-forest}
use Rattle.declarations.proofs.SignLemmas.{nil_forest}
use Rattle.declarations.specs.Bare.{bare_first, has_no_delimiters, held_alone, held_by, innermost, inside_of}

-- the trees of a stream in a group that holds no other group alone
pub innermost_held : (f g : Forest) → held_alone f ≡ Some g → innermost f ≡ innermost g
innermost_held nil g e = cc
innermost_held (leaf token lo hi rest) g e = cc
innermost_held (group d lo hi inside rest) g e = go (has_no_delimiters d && is_nil rest) e
  where
    go : (b : Bool) → (if b then Some inside else None) ≡ Some g
        → (if b then innermost inside else group d lo hi inside rest) ≡ innermost g
    go true h = let same : inside ≡ g = cc in ap innermost same
    go false h = cc

pub innermost_none : (f : Forest) → held_alone f ≡ None → innermost f ≡ f
innermost_none nil e = refl
innermost_none (leaf token lo hi rest) e = refl
innermost_none (group d lo hi inside rest) e = go (has_no_delimiters d && is_nil rest) e
  where
    go : (b : Bool) → (if b then Some inside else None) ≡ None
        → (if b then innermost inside else group d lo hi inside rest) ≡ group d lo hi inside rest
    go true h = cc
    go false h = refl

pub held_fewer : (f g : Forest) → held_alone f ≡ Some g → count g < count f
held_fewer nil g e = cc
held_fewer (leaf token lo hi rest) g e = cc
held_fewer (group d lo hi inside rest) g e = go (has_no_delimiters d && is_nil rest) e
  where
    go : (b : Bool) → (if b then Some inside else None) ≡ Some g → count g < count (group d lo hi inside rest)
    go true h =
        let same : inside ≡ g = cc in
        subst (λ f. count f < count (group d lo hi inside rest)) same (omega arith)
    go false h = cc

pub held_first : (stream : Forest) (trees : List TokenTree) (first : TokenTree) (rest : List TokenTree) (g : Grouped)
    (last : Bool) → forest trees ≡ stream → trees ≡ first ∷ rest → first ≡ Group g → last ≡ (length rest == 0)
    → held_by g.delimiter g.stream last ≡ held_alone stream
held_first stream trees first rest g last held whole is none =
    let all : stream ≡ forest (Group g ∷ rest) = sym held ∙ ap forest whole ∙ ap (λ f. forest (f ∷ rest)) is in
    let nil_rest : is_nil (forest rest) ≡ last = nil_forest rest ∙ sym none in
    ap (λ l. held_by g.delimiter g.stream l) (sym nil_rest) ∙ ap held_alone (sym all)

-- the trees of a stream that are the innermost of a group
pub inside_trees : (trees : List TokenTree) (stream held : Forest) (g : Grouped) → forest trees ≡ held
    → held ≡ innermost stream → stream ≡ g.stream
    → trees ≡ inside_of g
inside_trees trees stream held g whole same is =
    sym (trees_of-forest trees) ∙ ap trees_of (whole ∙ same ∙ ap innermost is)

pub no_bare : (trees : List TokenTree) → ((g : Grouped) (rest : List TokenTree) → trees ≡ Group g ∷ rest → ⊥)
    → bare_first trees ≡ None
no_bare [] none = refl
no_bare (Group g ∷ rest) none = absurd (none g rest refl)
no_bare (Ident i ∷ rest) none = refl
no_bare (Punct p ∷ rest) none = refl
no_bare (Literal l ∷ rest) none = refl
