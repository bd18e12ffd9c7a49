-- The generic parameters of a struct, as its `impl` declares them and uses them.
use Rattle.std.specs.Prelude.{◌≡◌, List, [], ◌∷◌, ◌++◌, codes, false}
use Rattle.proc_macro2.specs.Extent.{nowhere}
use Rattle.proc_macro2.specs.Forest.{Forest}
use Rattle.proc_macro2.specs.declared.Spacing.TheVariants.{Alone}
use Rattle.proc_macro2.specs.declared.TokenTree.{TokenTree}
use Rattle.proc_macro2.specs.declared.TokenTree.TheVariants.{Ident, Punct}
use Rattle.declarations.specs.Param.{IsParamAt, IsWithin, ParamTrees}
use Rattle.declarations.specs.declared.generics.ParamKind.{ParamKind}
use Rattle.declarations.specs.declared.generics.ParamKind.TheVariants as kinds
use Rattle.write_getters.specs.Copies.{copy_trees}

-- the trees are these parameters, one after another
abbrev pub AreParams : List TokenTree → List ParamTrees → Type 0
AreParams trees [] = trees ≡ []
AreParams trees (param ∷ params) = (rest : List TokenTree) × IsParamAt trees param rest × AreParams rest params

-- the trees inside the brackets are these parameters; without brackets there are none
abbrev pub AreParamsOf : List TokenTree → List ParamTrees → Type 0
AreParamsOf generics params = (inside : List TokenTree) × IsWithin generics inside × AreParams inside params

-- the keyword of a parameter: `const` for a constant, and none for others
abbrev pub keyword : ParamKind → List TokenTree
keyword kinds.Lifetime = []
keyword kinds.Type = []
keyword kinds.Const = Ident (record { name = codes "const"; raw = false; span = nowhere }) ∷ []

-- `:` (58) and the bounds, if there are any
abbrev pub after_colon : List TokenTree → List TokenTree
after_colon [] = []
after_colon (bound ∷ bounds) = Punct (record { mark = 58; spacing = Alone; span = nowhere }) ∷ bound ∷ bounds

-- a parameter as it is declared, without its default
abbrev pub parameter : ParamTrees → Forest
parameter param =
    copy_trees (param.attributes ++ (keyword param.kind ++ (param.name ++ after_colon param.bounds)))

-- a parameter as an argument, which is its name
abbrev pub argument : ParamTrees → Forest
argument param = copy_trees param.name
