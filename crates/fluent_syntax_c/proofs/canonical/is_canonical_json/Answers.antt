use Rattle.std.proofs.Common.{◌∙◌, rules}
use Rattle.fluent_syntax_c.proofs.Tested.{tested_none_is_none}
use Rattle.fluent_syntax_c.proofs.canonical.is_canonical_json.Goals as goal

pub returns-clause-canonical : goal.returns-clause-canonical
returns-clause-canonical c =
    let found = c.in_ok-first_uncanonical_json.ensures.found in
    record {
      edition = found.edition;
      has_number = found.has_number;
      tree = found.tree;
      is_spelled = found.is_spelled;
      canonical = tested_none_is_none _ c.is_none.result c.is_none.ensures ∙ found.none;
    }

pub returns-in_err-first_uncanonical_json-clause-tree : goal.returns-in_err-first_uncanonical_json-clause-tree
returns-in_err-first_uncanonical_json-clause-tree c = λ stated.
    c.in_err-first_uncanonical_json.ensures.tree (search rules)

pub returns-in_err-first_uncanonical_json-clause-json : goal.returns-in_err-first_uncanonical_json-clause-json
returns-in_err-first_uncanonical_json-clause-json c = λ stated.
    c.in_err-first_uncanonical_json.ensures.json (search rules)
