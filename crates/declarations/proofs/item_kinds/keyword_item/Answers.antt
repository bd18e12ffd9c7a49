use Rattle.declarations.proofs.DeclarationLemmas.{item_async, item_const, item_enum, item_extern, item_fn, item_impl}
use Rattle.declarations.proofs.DeclarationLemmas.{item_macro, item_mod, item_static, item_struct, item_trait, item_type}
use Rattle.declarations.proofs.DeclarationLemmas.{item_unsafe, item_use, no_keyword_item}
use Rattle.declarations.proofs.item_kinds.keyword_item.Goals as goal

pub returns-in-Async : goal.returns-in-Async
returns-in-Async c =
    item_async c.args.trees.now c.args.rest.now c.args.keyword c.past_async.result c.requires c.in-Async.is
    c.past_async.ensures

pub returns-in-Const : goal.returns-in-Const
returns-in-Const c =
    item_const c.args.trees.now c.args.rest.now c.args.keyword c.past_const.result c.requires c.in-Const.is
    c.past_const.ensures

pub returns-in-Enum : goal.returns-in-Enum
returns-in-Enum c =
    item_enum c.args.trees.now c.args.rest.now c.args.keyword c.named_item.result c.requires c.in-Enum.is
    c.named_item.ensures

pub returns-in-Extern : goal.returns-in-Extern
returns-in-Extern c =
    item_extern c.args.trees.now c.args.rest.now c.args.keyword c.past_extern.result c.requires c.in-Extern.is
    c.past_extern.ensures

pub returns-in-Fn : goal.returns-in-Fn
returns-in-Fn c =
    item_fn c.args.trees.now c.args.rest.now c.args.keyword c.named_item-in-Fn.result c.requires c.in-Fn.is
    c.named_item-in-Fn.ensures

pub returns-in-Impl : goal.returns-in-Impl
returns-in-Impl c =
    item_impl c.args.trees.now c.args.rest.now c.args.keyword c.named_item-in-Impl.result c.requires c.in-Impl.is
    c.named_item-in-Impl.ensures

pub returns-in-Macro : goal.returns-in-Macro
returns-in-Macro c =
    item_macro c.args.trees.now c.args.rest.now c.args.keyword c.named_item-in-Macro.result c.requires c.in-Macro.is
    c.named_item-in-Macro.ensures

pub returns-in-Mod : goal.returns-in-Mod
returns-in-Mod c =
    item_mod c.args.trees.now c.args.rest.now c.args.keyword c.named_item-in-Mod.result c.requires c.in-Mod.is
    c.named_item-in-Mod.ensures

pub returns-in-Static : goal.returns-in-Static
returns-in-Static c =
    item_static c.args.trees.now c.args.rest.now c.args.keyword c.past_static.result c.requires c.in-Static.is
    c.past_static.ensures

pub returns-in-Struct : goal.returns-in-Struct
returns-in-Struct c =
    item_struct c.args.trees.now c.args.rest.now c.args.keyword c.named_item-in-Struct.result c.requires c.in-Struct.is
    c.named_item-in-Struct.ensures

pub returns-in-Trait : goal.returns-in-Trait
returns-in-Trait c =
    item_trait c.args.trees.now c.args.rest.now c.args.keyword c.past_trait.result c.requires c.in-Trait.is
    c.past_trait.ensures

pub returns-in-Type : goal.returns-in-Type
returns-in-Type c =
    item_type c.args.trees.now c.args.rest.now c.args.keyword c.named_item-in-Type.result c.requires c.in-Type.is
    c.named_item-in-Type.ensures

pub returns-in-Unsafe : goal.returns-in-Unsafe
returns-in-Unsafe c =
    item_unsafe c.args.trees.now c.args.rest.now c.args.keyword c.past_unsafe.result c.requires c.in-Unsafe.is
    c.past_unsafe.ensures

pub returns-in-Use : goal.returns-in-Use
returns-in-Use c =
    item_use c.args.trees.now c.args.rest.now c.args.keyword c.named_item-in-Use.result c.requires c.in-Use.is
    c.named_item-in-Use.ensures

pub returns-in_default : goal.returns-in_default
returns-in_default c =
    no_keyword_item c.args.trees.now c.args.rest.now c.args.keyword c.requires c.in_default.not-Async
    c.in_default.not-Const c.in_default.not-Enum c.in_default.not-Extern c.in_default.not-Fn c.in_default.not-Impl
    c.in_default.not-Macro c.in_default.not-Mod c.in_default.not-Static c.in_default.not-Struct c.in_default.not-Trait
    c.in_default.not-Type c.in_default.not-Unsafe c.in_default.not-Use
