-- The number of trees in a stream, and the number of records.
use Rattle.std.proofs.Common.{◌≡◌, ◌+◌, ◌≤◌, ℕ, List, [], ◌∷◌, length, refl, sym, ap, ◌∙◌, arith}
use Rattle.std.proofs.Common.{◌++◌, Result, Ok, Err, append_assoc, flat_map}
use Rattle.pm_c.specs.declared.records.PmTree.{PmTree}
use Rattle.std.specs.List.{All}
use Rattle.std.specs.Result.{IfErr, OnErr}
use Rattle.std.proofs.lemmas.List.Elements.{All-cons, All-nil}
use Rattle.lexical.specs.Token as tokens
use Rattle.proc_macro2.specs.Forest.{Forest, nil, leaf, group}
use Rattle.proc_macro2.specs.InOrder.{in_order, in_order_onto}
use Rattle.proc_macro2.specs.Trees.{forest}
use Rattle.proc_macro2.specs.declared.TokenTree.{TokenTree}
use Rattle.proc_macro2.specs.declared.TokenTree.TheVariants.{Group, Ident, Punct, Literal}
use Rattle.pm_c.specs.Listing.{inner_width, kept_text, record_of, records_from, width}

width-forest : (trees : List TokenTree) → width (forest trees) ≡ length trees
width-forest [] = refl
width-forest (Group g ∷ trees) = omega (arith, width-forest trees)
width-forest (Ident i ∷ trees) = omega (arith, width-forest trees)
width-forest (Punct p ∷ trees) = omega (arith, width-forest trees)
width-forest (Literal l ∷ trees) = omega (arith, width-forest trees)

pub length_width : (trees : List TokenTree) (stream : Forest) → forest trees ≡ stream → length trees ≡ width stream
length_width trees stream is = sym (width-forest trees) ∙ ap width is

-- each tree has a record
pub length-records : (start : ℕ) (trees : List TokenTree) → length (records_from start trees) ≡ length trees
length-records start [] = refl
length-records start (tree ∷ trees) = omega (arith, length-records (start + length (kept_text tree)) trees)

-- a stream has at least as many trees in reading order as directly in it
width-onto : (stream : Forest) (more : List TokenTree)
    → length more + width stream ≤ length (in_order_onto stream more)
width-onto nil more = omega arith
width-onto (leaf token lo hi rest) more = omega (arith, width-onto rest more)
width-onto (group d lo hi inside rest) more =
    omega (arith, width-onto inside (in_order_onto rest more), width-onto rest more)

-- the tree has at most `n` trees directly inside it
abbrev pub HasAtMost : ℕ → TokenTree → Type 0
HasAtMost n tree = inner_width tree ≤ n

widths-onto : (stream : Forest) (more : List TokenTree) (n : ℕ) → length (in_order_onto stream more) ≤ n
    → All (HasAtMost n) more → All (HasAtMost n) (in_order_onto stream more)
widths-onto nil more n few h = h
widths-onto (leaf (tokens.Name raw name) lo hi rest) more n few h =
    All-cons (HasAtMost n) _ _ (omega arith) (widths-onto rest more n (omega (arith, few)) h)
widths-onto (leaf (tokens.Mark c joint) lo hi rest) more n few h =
    All-cons (HasAtMost n) _ _ (omega arith) (widths-onto rest more n (omega (arith, few)) h)
widths-onto (leaf (tokens.Literal text) lo hi rest) more n few h =
    All-cons (HasAtMost n) _ _ (omega arith) (widths-onto rest more n (omega (arith, few)) h)
widths-onto (group d lo hi inside rest) more n few h =
    let outer = width-onto inside (in_order_onto rest more) in
    All-cons (HasAtMost n) _ _ (omega (arith, few, outer))
    (widths-onto inside (in_order_onto rest more) n (omega (arith, few))
    (widths-onto rest more n (omega (arith, few, outer)) h))

-- no tree of a stream has more trees inside it than the stream has in all
pub widths_in_order : (stream : Forest) → All (HasAtMost (length (in_order stream))) (in_order stream)
widths_in_order stream =
    widths-onto stream [] (length (in_order stream)) (omega arith) (All-nil (HasAtMost (length (in_order stream))))

-- a fact that holds if there is an error holds for each error
pub on_error : {T E : Type 0} (r : Result T E) (P : E → Type 0) (Q R : Type 0) → OnErr r Q → (Q → R)
    → IfErr r (λ error. P error → R)
on_error (Ok x) P Q R h f = tt
on_error (Err error) P Q R h f = λ p. f h

-- one more record is appended
pub one_record :
    (old new whole : List PmTree) (made : PmTree) (start next : ℕ) (tree : TokenTree) (trees rest : List TokenTree)
    → trees ≡ tree ∷ rest → made ≡ record_of start tree → next ≡ start + length (kept_text tree)
    → new ≡ old ++ made ∷ [] → old ++ records_from start trees ≡ whole → new ++ records_from next rest ≡ whole
one_record old new whole made start next tree trees rest first is moved grown all =
    let inner : made ∷ records_from next rest ≡ records_from start trees = rw (is, moved, first) refl in
    ap (λ l. l ++ records_from next rest) grown
    ∙ append_assoc old (made ∷ []) (records_from next rest) ∙ ap (λ l. old ++ l) inner ∙ all

-- one more text is appended
pub one_text :
    (old new whole : List ℕ) (tree : TokenTree) (trees rest : List TokenTree) → trees ≡ tree ∷ rest
    → new ≡ old ++ kept_text tree → old ++ flat_map kept_text trees ≡ whole → new ++ flat_map kept_text rest ≡ whole
one_text old new whole tree trees rest first grown all =
    ap (λ l. l ++ flat_map kept_text rest) grown
    ∙ append_assoc old (kept_text tree) (flat_map kept_text rest)
    ∙ ap (λ l. old ++ flat_map kept_text l) (sym first) ∙ all
