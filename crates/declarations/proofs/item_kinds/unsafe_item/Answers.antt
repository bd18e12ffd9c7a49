use Rattle.declarations.proofs.ItemKindLemmas.{no_unsafe_item, unsafe_extern_item, unsafe_fn, unsafe_impl, unsafe_mod}
use Rattle.declarations.proofs.ItemKindLemmas.{unsafe_static, unsafe_trait}
use Rattle.declarations.proofs.item_kinds.unsafe_item.Goals as goal

pub returns-in-Extern : goal.returns-in-Extern
returns-in-Extern c =
    unsafe_extern_item c.args.trees.now c.args.rest.now c.args.keyword c.past_unsafe_extern.result c.requires
    c.in-Extern.is c.past_unsafe_extern.ensures

pub returns-in-Fn : goal.returns-in-Fn
returns-in-Fn c =
    unsafe_fn c.args.trees.now c.args.rest.now c.args.keyword c.named_item.result c.requires c.in-Fn.is
    c.named_item.ensures

pub returns-in-Impl : goal.returns-in-Impl
returns-in-Impl c =
    unsafe_impl c.args.trees.now c.args.rest.now c.args.keyword c.named_item-in-Impl.result c.requires c.in-Impl.is
    c.named_item-in-Impl.ensures

pub returns-in-Mod : goal.returns-in-Mod
returns-in-Mod c =
    unsafe_mod c.args.trees.now c.args.rest.now c.args.keyword c.named_item-in-Mod.result c.requires c.in-Mod.is
    c.named_item-in-Mod.ensures

pub returns-in-Static : goal.returns-in-Static
returns-in-Static c =
    unsafe_static c.args.trees.now c.args.rest.now c.args.keyword c.past_static.result c.requires c.in-Static.is
    c.past_static.ensures

pub returns-in-Trait : goal.returns-in-Trait
returns-in-Trait c =
    unsafe_trait c.args.trees.now c.args.rest.now c.args.keyword c.past_trait.result c.requires c.in-Trait.is
    c.past_trait.ensures

pub returns-in_default : goal.returns-in_default
returns-in_default c =
    no_unsafe_item c.args.trees.now c.args.rest.now c.args.keyword c.requires c.in_default.not-Extern
    c.in_default.not-Fn c.in_default.not-Impl c.in_default.not-Mod c.in_default.not-Static c.in_default.not-Trait
