-- Lists as they are written, with the marks or the word before each element.
use Rattle.std.specs.Prelude.{ℕ, Bool, true, false, List, [], ◌∷◌, codes}
use Rattle.proc_macro2.specs.Building.{split, trees_of_all}
use Rattle.proc_macro2.specs.Forest.{Forest, nil, leaf, chain}
use Rattle.proc_macro2.specs.Token.{Name, Mark}
use Rattle.pm_stream.specs.declared.stream.TokenTree.{TokenTree}
use Rattle.item_headers.specs.declared.lists.Lead.{Lead}
use Rattle.item_headers.specs.declared.lists.Lead.TheVariants as leads

-- a mark that is Alone, with a span that points to no text
abbrev pub mark : ℕ → Forest
mark c = leaf (Mark c false) 0 0 nil

-- a word, with a span that points to no text
abbrev pub word : List ℕ → Forest
word name = leaf (Name false name) 0 0 nil

-- the trees after they were pushed to a quote: a negative literal becomes two trees
abbrev pub pushed_trees : List TokenTree → Forest
pushed_trees trees = trees_of_all split trees

-- the mark (`:` is 58) and the trees, or nothing if there are no trees
abbrev pub led : ℕ → List TokenTree → Forest
led c [] = nil
led c (tree ∷ trees) = chain (mark c) (pushed_trees (tree ∷ trees))

-- the trees before the first element: `<` (60), `::<` whose first `:` (58) is Joint, or `where`
abbrev pub first_lead : Lead → Forest
first_lead leads.Angle = mark 60
first_lead leads.Turbofish = leaf (Mark 58 true) 0 0 (chain (mark 58) (mark 60))
first_lead leads.Where = word (codes "where")

-- the trees before an element: `,` (44) if the `Bool` is true, or else those before the first element
abbrev pub lead_of : Bool → Lead → Forest
lead_of true lead = mark 44
lead_of false lead = first_lead lead

-- the elements, each with the trees before it. The `Bool` is whether other elements come before them
abbrev pub listed_after : Bool → Lead → List Forest → Forest
listed_after any lead [] = nil
listed_after any lead (element ∷ elements) =
    chain (lead_of any lead) (chain element (listed_after true lead elements))

-- the elements of a whole list, each with the trees before it
abbrev pub list_trees : Lead → List Forest → Forest
list_trees lead elements = listed_after false lead elements

-- whether there are elements before the list or in it
abbrev pub any_of : {A : Type 0} → Bool → List A → Bool
any_of any [] = any
any_of any (element ∷ elements) = true
