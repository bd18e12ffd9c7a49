-- Trees without most of those inside groups.
use Rattle.std.proofs.Common.{◌≡◌, ◌<◌, List, [], ◌∷◌, ◌++◌, refl, sym, ap, ◌∙◌, subst, arith}
use Rattle.pm_span.specs.Extent.{Extent}
use Rattle.pm_stream.specs.Forest.{Forest, nil, chain, IsBuilt}
use Rattle.pm_stream.specs.Size.{count}
use Rattle.pm_stream.specs.Trees.{forest, alone}
use Rattle.pm_stream.specs.declared.stream.TokenTree.{TokenTree}
use Rattle.pm_stream.proofs.TreeLemmas.{forest-push}
use Rattle.token_buffer.specs.Made.{first_onto}
use Rattle.token_buffer.specs.Outer.{outer}
use Rattle.token_buffer.specs.declared.cursor.TokenText.{TokenText}
use Rattle.token_buffer.specs.declared.cursor.TokenText.TheVariants as texts
use Rattle.token_buffer.proofs.HeldLemmas.{joined_nil}
use Rattle.token_buffer.proofs.MadeLemmas.{joined_joined}
use Rattle.token_buffer.proofs.MerelyBuiltLemmas.{merely_built}

outer_first : (text : TokenText) (span : Extent) (rest : Forest)
    → outer (first_onto text span rest) ≡ chain (outer (first_onto text span nil)) (outer rest)
outer_first (texts.Ident name) span rest = refl
outer_first (texts.Punct mark spacing) span rest = refl
outer_first (texts.Literal literal) span rest = refl
outer_first (texts.Group delimiter inside) span rest = refl

-- one more tree is made
pub outer_more : (trees items : List TokenTree) (tree : TokenTree) (text : TokenText) (span : Extent)
    (here rest all : Forest) → chain (forest trees) (outer here) ≡ outer all → here ≡ first_onto text span rest
    → alone tree ≡ outer (first_onto text span nil) → items ≡ trees ++ tree ∷ []
    → chain (forest items) (outer rest) ≡ outer all
outer_more trees items tree text span here rest all h first made push =
    ap (λ ts. chain (forest ts) (outer rest)) push
    ∙ (ap (λ f. chain f (outer rest)) (forest-push trees tree)
    ∙ (joined_joined (forest trees) (alone tree) (outer rest)
    ∙ (ap (λ f. chain (forest trees) (chain f (outer rest))) made
    ∙ (ap (chain (forest trees)) (sym (outer_first text span rest) ∙ ap outer (sym first)) ∙ h))))

-- all trees are made
pub outer_all : (trees : List TokenTree) (here all : Forest) → chain (forest trees) (outer here) ≡ outer all
    → here ≡ nil → forest trees ≡ outer all
outer_all trees here all h done =
    sym (joined_nil (forest trees)) ∙ (ap (λ f. chain (forest trees) (outer f)) (sym done) ∙ h)

built_alone : (text : TokenText) (span : Extent) (rest : Forest) → IsBuilt (first_onto text span rest)
    → IsBuilt (first_onto text span nil)
built_alone (texts.Ident name) span rest h = (h.0, h.1, tt)
built_alone (texts.Punct mark spacing) span rest h = (h.0, h.1, tt)
built_alone (texts.Literal literal) span rest h = (h.0, h.1, tt)
built_alone (texts.Group delimiter inside) span rest h = (h.0, h.1, tt)

-- the first tree is built
pub built_first : (text : TokenText) (span : Extent) (here rest : Forest) → here ≡ first_onto text span rest
    → ∥ IsBuilt here ∥₁ → IsBuilt (first_onto text span nil)
built_first text span here rest first built =
    built_alone text span rest (subst IsBuilt first (merely_built here built))

-- fewer trees are left
pub fewer_first : (text : TokenText) (span : Extent) (here rest : Forest) → here ≡ first_onto text span rest
    → count rest < count here
fewer_first (texts.Ident name) span here rest first = omega (arith, ap count first)
fewer_first (texts.Punct mark spacing) span here rest first = omega (arith, ap count first)
fewer_first (texts.Literal literal) span here rest first = omega (arith, ap count first)
fewer_first (texts.Group delimiter inside) span here rest first = omega (arith, ap count first)
