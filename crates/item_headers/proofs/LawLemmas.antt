-- The law of headers, from the trees of an item.
use Rattle.std.proofs.Common.{◌≡◌, sym, ap, subst, List, [], ◌∷◌, ◌++◌, codes, map, refl}
use Rattle.pm_stream.specs.declared.stream.Group.{Group as Grouped}
use Rattle.pm_stream.specs.declared.stream.TokenTree.{TokenTree}
use Rattle.pm_stream.specs.declared.stream.TokenTree.TheVariants.{Group, Ident}
use Rattle.proc_macro2.specs.DocGroup.{trees_of}
use Rattle.proc_macro2.specs.Forest.{Forest}
use Rattle.proc_macro2.specs.declared.Delimiter.TheVariants as delimiters
use Rattle.declarations.specs.rules.Parts.{predicate, where_clause}
use Rattle.declarations.proofs.RuleFormLemmas.{found_reads}
use Rattle.declarations.proofs.RuleLemmas.{starts}
use Rattle.item_headers.specs.Header.{bounds_on_types, impl_generics, type_generics, where_with}
use Rattle.item_headers.specs.Laws.{BoundedClauseReads, ClauseReads, HeaderReads, HeaderWithClauseReads, IsClauseBefore}
use Rattle.item_headers.specs.Laws.{IsImplOf}
use Rattle.item_headers.proofs.BoundedClauseLemmas.{all_derived, bounded_lists, bounded_same}
use Rattle.item_headers.proofs.HeaderPartLemmas.{where_finds, where_trees}
use Rattle.item_headers.proofs.ImplReadingLemmas.{Given, all_read}
use Rattle.item_headers.proofs.OnlyImplLemmas.{impl_only, impl_with}
use Rattle.item_headers.proofs.ParamReadingLemmas.{AllDerived, predicated, word_tree}
use Rattle.item_headers.proofs.SelfTypeLemmas.{argument_trees}
use Rattle.item_headers.proofs.WrittenLemmas.{arguments_same, generic_trees, generics_same, header_same, item_params}
use Rattle.item_headers.proofs.WrittenLemmas.{item_predicates, name_of, where_same}

-- the trees of a header with these parts, and a body
abbrev laid : List TokenTree → List TokenTree → List TokenTree → List TokenTree → Grouped → List TokenTree
laid angles path target clause body =
    word_tree (codes "impl") ∷ (angles ++ (path ++ (word_tree (codes "for") ∷ (target ++ (clause ++ Group body ∷ [])))))

-- parts that are the same
laid_same : (a b p c d x : List TokenTree) (body : Grouped) → b ≡ a → d ≡ c
    → IsImplOf (laid a p c x body) a p c x body
    → IsImplOf (laid b p d x body) b p d x body
laid_same a b p c d x body one two h =
    subst (λ g. IsImplOf (laid g p d x body) g p d x body) (sym one)
    (subst (λ t. IsImplOf (laid a p t x body) a p t x body) (sym two) h)

pub header_with_clause : HeaderWithClauseReads
header_with_clause gs params name path clause body whole has is_name trait brace reads =
    let known = item_params gs params has whole in
    let given : Given = record {
      params = params;
      known = known;
      clause = trees_of clause;
      name = name;
      is_name = is_name;
      path = trees_of path;
      trait = trait;
      body = body;
      brace = brace;
      clause_reads = reads;
    } in
    let target : List TokenTree = Ident name ∷ argument_trees (map name_of params) in
    subst (λ ts. IsImplOf ts (trees_of (impl_generics params)) (trees_of path)
    (Ident name ∷ trees_of (type_generics params)) (trees_of clause) body)
    (sym (header_same params name path clause (Group body ∷ [])))
    (laid_same (generic_trees params) (trees_of (impl_generics params)) (trees_of path) target
    (Ident name ∷ trees_of (type_generics params)) (trees_of clause) body (generics_same params known.whole)
    (ap (λ ts. Ident name ∷ ts) (arguments_same params known.whole))
    (record { all = all_read given; parts = λ item. (impl_only given item, impl_with given item) }))

-- predicates that the rule derives are read as a where clause
where_reads : (xs : List (List TokenTree)) (clause : Forest) (body : Grouped) → trees_of clause ≡ where_trees xs
    → AllDerived predicate xs → body.delimiter ≡ delimiters.Brace
    → IsClauseBefore (trees_of clause) body
where_reads xs clause body same all brace =
    subst (λ ts. IsClauseBefore ts body) (sym same)
    (found_reads where_clause (starts where_clause refl refl) (where_trees xs ++ (Group body ∷ [])) (where_trees xs)
    (Group body ∷ []) (where_finds xs body all brace) refl)

pub clause_reads : ClauseReads
clause_reads clause ps body whole has brace =
    let known = item_predicates clause ps has whole in
    where_reads (map predicated ps) (where_with ps []) body (where_same ps known.whole) known.derived brace

pub bounded_clause_reads : BoundedClauseReads
bounded_clause_reads gs clause params ps bound body whole_gs whole_clause has_params has_predicates reads brace =
    let known = item_params gs params has_params whole_gs in
    let clauses = item_predicates clause ps has_predicates whole_clause in
    where_reads (map predicated ps ++ bounded_lists (trees_of bound) params)
    (where_with ps (bounds_on_types bound params)) body (bounded_same ps bound params clauses.whole known.whole)
    (all_derived ps params (trees_of bound) clauses.derived known.typed reads) brace

pub header_reads : HeaderReads
header_reads gs clause params ps name path body whole_gs whole_clause has_params has_predicates is_name trait brace =
    header_with_clause gs params name path (where_with ps []) body whole_gs has_params is_name trait brace
    (clause_reads clause ps body whole_clause has_predicates brace)
