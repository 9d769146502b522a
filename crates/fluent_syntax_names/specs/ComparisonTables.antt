-- What is known of another file, by tables of what it defines and uses, of where its messages lead and its entries are.
use Rattle.fluent_syntax_names.specs.MissingParts.{Other}
use Rattle.fluent_syntax_names.specs.FirstPlaces.{place_of}
use Rattle.fluent_syntax_names.specs.Rows.{reachable_of}
use Rattle.fluent_syntax_names.specs.Tables.{has_name}
use Rattle.fluent_syntax_names.specs.declared.comparison_tables.ComparisonTables.{ComparisonTables}

abbrev pub other_by : ComparisonTables → Other
other_by tables = record {
  defines = has_name (place_of tables.defined.now.table);
  uses = has_name (place_of tables.used.now.table);
  reachable = reachable_of tables.message_references.now;
  place = place_of tables.places.now.table;
  own_place = place_of tables.own_places.now.table;
}
