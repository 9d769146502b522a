-- Kinds that settings name.
use Rattle.std.proofs.Common.{◌≡◌, List, [], ◌∷◌, Option, inl, inr, map, refl}
use Rattle.toml.specs.Data.{Data, string}
use Rattle.toml.specs.View.{items_of}
use Rattle.ftl_files.specs.Kinds.{reported_name}
use Rattle.ftl_files.specs.Levels.{has_kind, have_common_kind}
use Rattle.ftl_files.specs.Settings.{AreKinds}
use Rattle.ftl_files.specs.declared.kinds.ReportedKind.{ReportedKind}
use Rattle.ftl_files.proofs.ListedNames.{items_of_lists_are_injective}

abbrev named : ReportedKind → Data
named kind = string (reported_name kind)

names_are_same : (kinds others : List ReportedKind) → map named kinds ≡ map named others →
    map reported_name kinds ≡ map reported_name others
names_are_same [] [] same = refl
names_are_same [] (o ∷ others) same = cc
names_are_same (k ∷ kinds) [] same = cc
names_are_same (k ∷ kinds) (o ∷ others) same =
    let first : reported_name k ≡ reported_name o = cc in
    let rest : map named kinds ≡ map named others = cc in
    let names = names_are_same kinds others rest in
    cc

-- kinds of one value have the same names
kinds_of_one_list_have_same_names : (value : Option Data) (kinds others : List ReportedKind) → AreKinds value kinds →
    AreKinds value others →
    map reported_name kinds ≡ map reported_name others
kinds_of_one_list_have_same_names value kinds others (inl one) (inl other) = rw (one.1, other.1) refl
kinds_of_one_list_have_same_names value kinds others (inl one) (inr other) = let none = one.0 in cc
kinds_of_one_list_have_same_names value kinds others (inr one) (inl other) = let none = other.0 in cc
kinds_of_one_list_have_same_names value kinds others (inr one) (inr other) =
    let items : items_of (map named kinds) ≡ items_of (map named others) = cc in
    names_are_same kinds others (items_of_lists_are_injective (map named kinds) (map named others) items)

has_same_kind : (kinds others : List ReportedKind) (k o : ReportedKind) →
    map reported_name kinds ≡ map reported_name others → reported_name k ≡ reported_name o →
    has_kind kinds k ≡ has_kind others o
has_same_kind [] [] k o same alike = refl
has_same_kind [] (other ∷ others) k o same alike = cc
has_same_kind (kind ∷ kinds) [] k o same alike = cc
has_same_kind (kind ∷ kinds) (other ∷ others) k o same alike =
    let first : reported_name kind ≡ reported_name other = cc in
    let rest : map reported_name kinds ≡ map reported_name others = cc in
    rw (first, alike, has_same_kind kinds others k o rest alike) refl

common_by_names : (warned others denied others' : List ReportedKind) →
    map reported_name warned ≡ map reported_name others → map reported_name denied ≡ map reported_name others' →
    have_common_kind warned denied ≡ have_common_kind others others'
common_by_names [] [] denied others' same alike = refl
common_by_names [] (other ∷ others) denied others' same alike = cc
common_by_names (kind ∷ warned) [] denied others' same alike = cc
common_by_names (kind ∷ warned) (other ∷ others) denied others' same alike =
    let first : reported_name kind ≡ reported_name other = cc in
    let rest : map reported_name warned ≡ map reported_name others = cc in
    rw (has_same_kind denied others' kind other alike first, common_by_names warned others denied others' rest alike)
    refl

-- whether a kind is in both lists is said by their values
pub common_by_values : (warn deny : Option Data) (warned denied others others' : List ReportedKind) →
    AreKinds warn warned → AreKinds deny denied → AreKinds warn others → AreKinds deny others' →
    have_common_kind warned denied ≡ have_common_kind others others'
common_by_values warn deny warned denied others others' one other one' other' =
    common_by_names warned others denied others' (kinds_of_one_list_have_same_names warn warned others one one')
    (kinds_of_one_list_have_same_names deny denied others' other other')
