-- Objects, key by key.
use Rattle.std.specs.Prelude.{ℕ, List, [], ◌∷◌, codes}
use Rattle.serde_json.specs.Data.{Data, string, object, Members, no_members, put}
use Rattle.serde_json.specs.View.{members_view}
use Rattle.fluent_syntax_json.specs.declared.object.Object.{Object}

-- the bytes of a text
abbrev pub Text : Type 0
Text = List ℕ

-- keys with their values
abbrev pub Fields : Type 0
Fields = List (Text × Data)

-- the members, with each field's value at its key
abbrev pub filled : Members → Fields → Members
filled ms [] = ms
filled ms (f ∷ fs) = filled (put f.0 f.1 ms) fs

-- the object that has these fields and no others, in whatever order they are written down
abbrev pub object_with : Fields → Data
object_with fs = object (filled no_members fs)

-- the same with the name of the node's type at the key `type`
abbrev pub object_of : Text → Fields → Data
object_of name fs = object_with ((codes "type", string name) ∷ fs)

-- the members so far of an object that is being filled
abbrev pub members_so_far : Object → Members
members_so_far o = members_view o.members.entries
