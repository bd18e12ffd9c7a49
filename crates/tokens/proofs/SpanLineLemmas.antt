-- Lemmas about the lines of trees.
use Rattle.std.proofs.Common.{◌≡◌, ℕ, ◌++◌, List, [], ◌∷◌, flat_map, map, take, drop, refl, sym, ap, ap₂, ◌∙◌}
use Rattle.std.proofs.Common.{append_assoc, append-nil}
use Rattle.std.proofs.lemmas.List.{take-append-drop}
use Rattle.std.proofs.lemmas.Grind.{flat_map-append}
use Rattle.proc_macro2.specs.Files.{new_map, next_lo}
use Rattle.proc_macro2.specs.Places.{ArePlaced, place_of, tree_place}
use Rattle.proc_macro2.specs.InOrder.{in_order}
use Rattle.proc_macro2.specs.declared.PlacedTree.{PlacedTree}
use Rattle.proc_macro2.specs.declared.TokenTree.{TokenTree}
use Rattle.proc_macro2.specs.declared.TokenTree.TheVariants.{Group, Ident, Punct, Literal}
use Rattle.tokens.specs.declared.mode.OutputMode.TheVariants.{Spans}
use Rattle.tokens.specs.declared.output.RunOutput.{RunOutput}
use Rattle.tokens.specs.Output.{IsOutputOf, output_bytes}
use Rattle.tokens.specs.Spans.{span_line, tree_line}

-- a placed tree has the line of the tree
line_of_tree : (source : List ℕ) (tree : TokenTree)
    → tree_line (tree_place (place_of (next_lo new_map) source) tree) ≡ span_line source tree
line_of_tree source (Group g) = refl
line_of_tree source (Ident i) = refl
line_of_tree source (Punct p) = refl
line_of_tree source (Literal l) = refl

-- placed trees have the lines of the trees
lines_of_trees : (source : List ℕ) (trees : List TokenTree)
    → flat_map tree_line (map (tree_place (place_of (next_lo new_map) source)) trees)
    ≡ flat_map (span_line source) trees
lines_of_trees source [] = refl
lines_of_trees source (tree ∷ trees) = rw (line_of_tree source tree, lines_of_trees source trees) refl

-- the lines of the placed trees of a source are what is written for its stream
pub placed_output : (source : List ℕ) (trees : List PlacedTree) (output : RunOutput)
    → ArePlaced (next_lo new_map) source trees → output_bytes output ≡ flat_map tree_line trees
    → IsOutputOf Spans source output
placed_output source trees output h is = record {
  stream = h.stream;
  parses = h.parses;
  writes = is ∙ (ap (flat_map tree_line) h.places ∙ lines_of_trees source (in_order h.stream));
}

-- the line of the last tree that is left is put before the lines that are there
pub line_before : (all before : List PlacedTree) (tree : PlacedTree) (rest old new written : List ℕ)
    → all ≡ before ++ (tree ∷ []) → flat_map tree_line all ++ old ≡ written → new ≡ tree_line tree ++ old
    → flat_map tree_line before ++ new ≡ written
line_before all before tree rest old new written split lines put =
    let last : flat_map tree_line (tree ∷ []) ≡ tree_line tree = append-nil (tree_line tree) in
    ap (λ x. flat_map tree_line before ++ x) put
    ∙ (sym (append_assoc (flat_map tree_line before) (tree_line tree) old)
    ∙ (ap (λ x. (flat_map tree_line before ++ x) ++ old) (sym last)
    ∙ (ap (λ x. x ++ old) (sym (ap (flat_map tree_line) split ∙ flat_map-append tree_line before (tree ∷ [])))
    ∙ lines)))

-- the lines of some trees, cut in two, are the lines of the first and of the last of them
pub lines_cut : (all front back : List PlacedTree) (mid : ℕ) → front ≡ take mid all → back ≡ drop mid all
    → flat_map tree_line all ≡ flat_map tree_line front ++ flat_map tree_line back
lines_cut all front back mid e f =
    ap (flat_map tree_line) (sym (take-append-drop mid all))
    ∙ (flat_map-append tree_line (take mid all) (drop mid all)
    ∙ ap₂ (λ x y. flat_map tree_line x ++ flat_map tree_line y) (sym e) (sym f))
