-- What a JSON text spells.
use Rattle.std.specs.Prelude.{◌≡◌, ◌==◌, ◌&&◌, ◌||◌, ◌+◌, ◌-◌, ◌^◌, ℕ, Bool, [], ◌∷◌, None, Some, false, min}
use Rattle.std.specs.Prelude.{nat_lt, not, true, if◌then◌else◌}
use Rattle.serde_json.specs.Data.{Data}
use Rattle.serde_json.specs.Read.{read}
use Rattle.fluent_syntax_tree.specs.Entry.{BodyTree}
use Rattle.fluent_syntax_grammar.specs.Written.{Text, written}
use Rattle.fluent_syntax_json.specs.Json.{JsonReads}
use Rattle.ftl.specs.declared.from_json.JsonFault.{JsonFault}
use Rattle.ftl.specs.declared.from_json.Opened.{Opened}
use Rattle.ftl.specs.declared.from_json.JsonFault.TheVariants.{Memory, Shape, Syntax, TooDeep}

-- The text is JSON, and its value spells the tree.
abbrev pub IsSpelled : Text → BodyTree Text → Type 0
IsSpelled json tree = (value : Data) × (read json ≡ Some value) × JsonReads value tree

-- The text is what the tree that the JSON spells is written as.
abbrev pub IsTextOf : (json text : Text) → Type 0
IsTextOf json text = (tree : BodyTree Text) × IsSpelled json tree × (text ≡ written false tree)

-- what is open after a byte more of a JSON text: in a string, or where that begins or a bracket or a brace is
abbrev pub opened_in_string : Opened → ℕ → Opened
opened_in_string opened b = record opened {
  in_string = opened.is_escaped || not (b == 34);
  is_escaped = not opened.is_escaped && b == 92;
}

abbrev pub opened_outside : Opened → ℕ → Opened
opened_outside opened b =
    if b == 34 then record opened { in_string = true }
    else (if b == 91 || b == 123 then record opened { brackets = min (opened.brackets + 1) (2 ^ 64 - 1) }
    else (if b == 93 || b == 125 then record opened { brackets = opened.brackets - 1 } else opened))

abbrev pub opened_after : Opened → ℕ → Opened
opened_after opened b = if opened.in_string then opened_in_string opened b else opened_outside opened b

-- whether more than so many brackets and braces are open after one of these bytes
abbrev pub opens_more : (depth : ℕ) → Opened → Text → Bool
opens_more depth opened [] = false
opens_more depth opened (b ∷ bs) =
    let now = opened_after opened b in nat_lt depth now.brackets || opens_more depth now bs

-- whether more than so many are open at once in the text, outside of strings
abbrev pub nests_deeper : (depth : ℕ) → Text → Bool
nests_deeper depth json = opens_more depth (record { brackets = 0; in_string = false; is_escaped = false }) json

-- Why the JSON spells no tree: it is none, and is too deep where it nests deeper than 127; or its value spells none. Of
-- memory nothing is said.
abbrev pub IsFault : (json : Text) → JsonFault → Type 0
IsFault json (Syntax line column) = (read json ≡ None) × (nests_deeper 127 json ≡ false)
IsFault json TooDeep = (read json ≡ None) × (nests_deeper 127 json ≡ true)
IsFault json Shape = (value : Data) × (read json ≡ Some value) × ((tree : BodyTree Text) → ¬ (JsonReads value tree))
IsFault json Memory = Unit {0}

-- the exit status of a fault
abbrev pub json_status : JsonFault → ℕ
json_status (Syntax line column) = 3
json_status Shape = 3
json_status Memory = 4
json_status TooDeep = 6
