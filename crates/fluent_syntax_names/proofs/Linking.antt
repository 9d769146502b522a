-- A graph that grows by one name or one link after another.
use Rattle.std.proofs.Common.{◌≡◌, ◌⊎◌, inl, inr, ℕ, ◌+◌, ◌<◌, ◌≤◌, false, List, [], ◌∷◌, ◌++◌}
use Rattle.std.proofs.Common.{length, get_or}
use Rattle.std.proofs.Common.{Some, None, refl, sym, ap, ◌∙◌, subst, arith, set, drop}
use Rattle.std.specs.Prelude.{◌||◌}
use Rattle.std.proofs.lemmas.Bool.{cases_eq, cases_lt, or_cases}
use Rattle.std.proofs.lemmas.List.{append-nil, get_or_append_left, get_or_past, get_or_push, length_push}
use Rattle.std.proofs.lemmas.List.{get_or-set_same, get_or-set_other, length-set, drop_all}
use Rattle.std.proofs.lemmas.List.Folds.{list_any-append}
use Rattle.fluent_syntax_tree.specs.declared.spans.Span.{Span}
use Rattle.fluent_syntax_names.proofs.Adding.{drop_one_node, rest_is_left_after_one, nothing_left_means_all_added}
use Rattle.fluent_syntax_names.specs.Growing.{Leaves}
use Rattle.fluent_syntax_names.specs.Graph.{Graph, HasEdge, edges}
use Rattle.fluent_syntax_names.specs.Cycles.{Link, is_link, links_to, links_in, link_to, links, pattern_after}
use Rattle.fluent_syntax_names.specs.Cycles.{referenced_pattern}
use Rattle.fluent_syntax_names.specs.Cycles.{no_pattern}
use Rattle.fluent_syntax_names.specs.ReferenceGraphs.{HasEdges, IsReferenceGraph, AddsLinks}
use Rattle.fluent_syntax_names.specs.Mentions.{Mentions}
use Rattle.fluent_syntax_names.specs.NamedLists.{AddsItem, AddsName, IsNew, Numbering, Within, lists_of, numbers_of}
use Rattle.fluent_syntax_names.specs.FirstPlaces.{place_of}
use Rattle.fluent_syntax_names.specs.QualifiedNames.{Text}
use Rattle.fluent_syntax_names.specs.declared.reference_graph.ReferenceGraph.{ReferenceGraph}
use Rattle.fluent_syntax_names.specs.declared.mention.Mention.{Mention}
use Rattle.fluent_syntax_names.specs.declared.named_lists.NamedLists.{NamedLists}
use Rattle.fluent_syntax_names.specs.declared.first_places.FirstPlaces.{FirstPlaces}
use Rattle.fluent_syntax_names.specs.declared.name_index.NameIndex.{NameIndex}
use Rattle.fluent_syntax_names.specs.declared.qualified_names.PatternName.{PatternName}
use Rattle.fluent_syntax_names.proofs.Numbered.{numbering_with_new_is_injective, known_name_keeps_its_number}
use Rattle.fluent_syntax_names.proofs.Numbered.{empty_numbering_is_injective, empty_numbering_is_within_zero}
use Rattle.fluent_syntax_names.proofs.Numbered.{numbering_with_new_is_within_one_more}
use Rattle.fluent_syntax_names.proofs.Ways.{or_from_left, true_right_makes_or_true, link_test_gives_names}
use Rattle.fluent_syntax_names.proofs.Ways.{link_is_link_between_its_ends}

-- ---- A new name

module _ (all : List Link) (old new : NamedLists ℕ) (name : Text) (node : ℕ) (is : IsNew old new name node)
    (has_edges : HasEdges all (numbers_of old) (lists_of old)) where
  abbrev g : Graph
  g = lists_of old

  abbrev more : Graph
  more = g ++ [] ∷ []

  numbered_name_keeps_its_number : (x : Text) (u : ℕ) → numbers_of old x ≡ Some u → numbers_of new x ≡ Some u
  numbered_name_keeps_its_number x u e =
      known_name_keeps_its_number (numbers_of old) (numbers_of new) name node is.absent is.notes x u e

  edges_of_old_nodes_stay : (u : ℕ) → u < length g → edges more u ≡ edges g u
  edges_of_old_nodes_stay u h = get_or_append_left g ([] ∷ []) [] u h

  node_off_graph_has_no_edges : (u : ℕ) → length g ≤ u → edges more u ≡ []
  node_off_graph_has_no_edges u h = elim (cases_eq u (length g)) [
    | inl e ↦ get_or_push g [] [] u (sym e)
    | inr n ↦ get_or_past more u [] (omega (arith, n, length_push g []))
  ]

  edges_stay_with_new_node : (u v : ℕ) → u < length g → HasEdge g u v → HasEdge more u v
  edges_stay_with_new_node u v h leads_on =
      subst (λ (l : List ℕ). (k : ℕ) × (k < length l) × (get_or l k 0 ≡ v)) (sym (edges_of_old_nodes_stay u h)) leads_on

  edges_with_new_node_were_there : (u v : ℕ) → HasEdge more u v → HasEdge g u v
  edges_with_new_node_were_there u v leads_on = elim (cases_lt u (length g)) [
    | inl w ↦ subst (λ (l : List ℕ). (k : ℕ) × (k < length l) × (get_or l k 0 ≡ v))
        (edges_of_old_nodes_stay u w) leads_on
    | inr w ↦
        let none : leads_on.0 < 0 =
        subst (λ (l : List ℕ). leads_on.0 < length l) (node_off_graph_has_no_edges u w) leads_on.1 in
        absurd (omega arith)
  ]

  graph_with_new_node_has_links_as_edges : HasEdges all (numbers_of new) more
  graph_with_new_node_has_links_as_edges = record {
    within = subst (Within (numbers_of new)) (sym (length_push g []))
        (numbering_with_new_is_within_one_more (numbers_of old) (numbers_of new) name node is.absent is.notes
        (length g) is.last has_edges.within);
    apart = numbering_with_new_is_injective (numbers_of old) (numbers_of new) name node is.absent is.notes
        (length g) is.last has_edges.within
        has_edges.apart;
    has_edges = λ x y e.
        let d = has_edges.has_edges x y e in (
          d.0,
          d.1,
          numbered_name_keeps_its_number x d.0 d.2,
          numbered_name_keeps_its_number y d.1 d.3,
          edges_stay_with_new_node d.0 d.1 (has_edges.within x d.0 d.2) d.4,
        );
    named = λ u v leads_on.
        let d = has_edges.named u v (edges_with_new_node_were_there u v leads_on) in
        (d.0, d.1, numbered_name_keeps_its_number d.0 u d.2, numbered_name_keeps_its_number d.1 v d.3, d.4);
  }

pub HasEdges-add_name : (all : List Link) (old new : NamedLists ℕ) (name : Text) (node : ℕ) → AddsName old new name node
    → HasEdges all (numbers_of old) (lists_of old) → HasEdges all (numbers_of new) (lists_of new)
HasEdges-add_name all old new name node adds has_edges = elim adds.adds [
  | inl same ↦ subst (λ (n : NamedLists ℕ). HasEdges all (numbers_of n) (lists_of n)) (sym same) has_edges
  | inr is ↦
      subst (λ (h : Graph). HasEdges all (numbers_of new) h) (sym is.longer)
      (graph_with_new_node_has_links_as_edges all old new name node is has_edges)
]

-- ---- A new link

module _ (all : List Link) (node : Numbering) (g : Graph) (has_edges : HasEdges all node g) (link : Link) (u v : ℕ)
    (from : node link.from ≡ Some u) (to : node link.to ≡ Some v) where
  abbrev longer : List ℕ
  longer = edges g u ++ v ∷ []

  abbrev linked : Graph
  linked = set g u longer

  abbrev with_link : List Link
  with_link = all ++ link ∷ []

  start_of_link_is_in_graph : u < length g
  start_of_link_is_in_graph = has_edges.within link.from u from

  edges_of_start_are_longer : edges linked u ≡ longer
  edges_of_start_are_longer = get_or-set_same g u longer [] start_of_link_is_in_graph

  edges_of_other_nodes_stay : (p : ℕ) → (p ≡ u → ⊥) → edges linked p ≡ edges g p
  edges_of_other_nodes_stay p n = get_or-set_other g u p longer [] n

  abbrev ListLeads : List ℕ → ℕ → Type 0
  ListLeads l q = (k : ℕ) × (k < length l) × (get_or l k 0 ≡ q)

  longer_list_leads_where_edges_led : (q : ℕ) → HasEdge g u q → ListLeads longer q
  longer_list_leads_where_edges_led q leads_on = (
    leads_on.0,
    omega (arith, leads_on.1, length_push (edges g u) v),
    get_or_append_left (edges g u) (v ∷ []) 0 leads_on.0 leads_on.1 ∙ leads_on.2,
  )

  edges_stay_in_linked_graph : (p q : ℕ) → HasEdge g p q → HasEdge linked p q
  edges_stay_in_linked_graph p q leads_on = elim (cases_eq p u) [
    | inl e ↦
        let at_u = longer_list_leads_where_edges_led q (subst (λ (x : ℕ). HasEdge g x q) e leads_on) in
        subst (λ (x : ℕ). HasEdge linked x q) (sym e)
        (subst (λ (l : List ℕ). ListLeads l q) (sym edges_of_start_are_longer) at_u)
    | inr n ↦ subst (λ (l : List ℕ). ListLeads l q) (sym (edges_of_other_nodes_stay p n)) leads_on
  ]

  linked_graph_has_edge_of_link : HasEdge linked u v
  linked_graph_has_edge_of_link =
      let last : ListLeads longer v = (
        length (edges g u),
        omega (arith, length_push (edges g u) v),
        get_or_push (edges g u) v 0 (length (edges g u)) refl,
      ) in
      subst (λ (l : List ℕ). ListLeads l v) (sym edges_of_start_are_longer) last

  longer_list_leads_to_old_or_new : (q : ℕ) → ListLeads longer q → HasEdge g u q ⊎ (q ≡ v)
  longer_list_leads_to_old_or_new q leads_on = elim (cases_lt leads_on.0 (length (edges g u))) [
    | inl w ↦
        inl (leads_on.0, w, sym (get_or_append_left (edges g u) (v ∷ []) 0 leads_on.0 w) ∙ leads_on.2)
    | inr w ↦
        let is : length (edges g u) ≡ leads_on.0 = omega (arith, w, leads_on.1, length_push (edges g u) v) in
        inr (sym leads_on.2 ∙ get_or_push (edges g u) v 0 leads_on.0 is)
  ]

  edge_of_linked_graph_is_old_or_new : (p q : ℕ) → HasEdge linked p q → HasEdge g p q ⊎ ((p ≡ u) × (q ≡ v))
  edge_of_linked_graph_is_old_or_new p q leads_on = elim (cases_eq p u) [
    | inl e ↦
        let at_u = subst (λ (x : ℕ). HasEdge linked x q) e leads_on in
        elim (longer_list_leads_to_old_or_new q
        (subst (λ (l : List ℕ). ListLeads l q) edges_of_start_are_longer at_u)) [
          | inl w ↦ inl (subst (λ (x : ℕ). HasEdge g x q) (sym e) w)
          | inr w ↦ inr (e, w)
        ]
    | inr n ↦ inl (subst (λ (l : List ℕ). ListLeads l q) (edges_of_other_nodes_stay p n) leads_on)
  ]

  links_with_link_are_old_or_new : (x y : Text)
      → links_to with_link x y ≡ (links_to all x y || links_to (link ∷ []) x y)
  links_with_link_are_old_or_new x y = list_any-append (is_link x y) all (link ∷ [])

  linked_graph_has_links_as_edges : HasEdges with_link node linked
  linked_graph_has_links_as_edges = record {
    within = λ x w e. omega (arith, has_edges.within x w e, length-set g u longer);
    apart = has_edges.apart;
    has_edges = λ x y e.
        elim (or_cases (links_to all x y) (links_to (link ∷ []) x y) (sym (links_with_link_are_old_or_new x y) ∙ e)) [
          | inl w ↦ let d = has_edges.has_edges x y w in (d.0, d.1, d.2, d.3, edges_stay_in_linked_graph d.0 d.1 d.4)
          | inr w ↦ elim (or_cases (is_link x y link) false w) [
            | inl is ↦
                let names = link_test_gives_names x y link is in
                (u, v, ap node names.0 ∙ from, ap node names.1 ∙ to, linked_graph_has_edge_of_link)
            | inr never ↦ absurd (cc)
          ]
        ];
    named = λ p q leads_on. elim (edge_of_linked_graph_is_old_or_new p q leads_on) [
      | inl w ↦
          let d = has_edges.named p q w in (
            d.0,
            d.1,
            d.2,
            d.3,
            links_with_link_are_old_or_new d.0 d.1
                ∙ or_from_left (links_to all d.0 d.1) (links_to (link ∷ []) d.0 d.1) d.4,
          )
      | inr w ↦ (
        link.from,
        link.to,
        from ∙ ap Some (sym w.0),
        to ∙ ap Some (sym w.1),
        links_with_link_are_old_or_new link.from link.to
            ∙ true_right_makes_or_true (links_to all link.from link.to) (links_to (link ∷ []) link.from link.to)
            (or_from_left (is_link link.from link.to link) false (link_is_link_between_its_ends link)),
      )
    ];
  }

pub HasEdges-more_link : (all : List Link) (old new : NamedLists ℕ) → HasEdges all (numbers_of old) (lists_of old)
    → (link : Link) (u v : ℕ) → numbers_of old link.from ≡ Some u → numbers_of old link.to ≡ Some v
    → AddsItem old new u v → HasEdges (all ++ link ∷ []) (numbers_of new) (lists_of new)
HasEdges-more_link all old new has_edges link u v from to adds =
    let linked = linked_graph_has_links_as_edges all (numbers_of old) (lists_of old) has_edges link u v from to in
    subst (λ (n : FirstPlaces ℕ). HasEdges (all ++ link ∷ []) (place_of n.table) (lists_of new)) (sym adds.same)
    (subst (λ (g : Graph). HasEdges (all ++ link ∷ []) (numbers_of old) g) (sym adds.longer) linked)

-- before anything is drawn
pub HasEdges-none : (node : Numbering) → ((x : Text) → node x ≡ None) → HasEdges [] node []
HasEdges-none node none = record {
  within = empty_numbering_is_within_zero node none;
  apart = empty_numbering_is_injective node none;
  has_edges = λ x y e. absurd (cc);
  named = λ u v leads_on. absurd (omega (arith, leads_on.1));
}

-- ---- The mentions of a file

module _ (text : Text) (all : List Link → List Link) (old now : ReferenceGraph) (ms : Mentions Span) (i : ℕ) where
  abbrev pub LeavesLinks : ReferenceGraph → PatternName → ℕ → Type 0
  LeavesLinks reference_graph pattern n = (before : List Link) → IsReferenceGraph before old → (list : List Link)
      × IsReferenceGraph list reference_graph
      × Leaves before list (links_in text pattern (drop n ms)) all

  pub links_are_left_after_next_mention : (next : ReferenceGraph) (pattern : PatternName) (m d : Mention Span)
      → i < length ms → m ≡ get_or ms i d
      → LeavesLinks now pattern i → AddsLinks now next (link_to text pattern (referenced_pattern m))
      → LeavesLinks next (pattern_after pattern m) (i + 1)
  links_are_left_after_next_mention next pattern m d within is left adds_links = λ before has_edges.
      let first = left before has_edges in
      let second = adds_links first.0 first.1 in (
        second.0,
        second.1,
        rest_is_left_after_one before first.0 second.0 (links_in text pattern (drop i ms))
            (link_to text pattern (referenced_pattern m)) (links_in text (pattern_after pattern m)
            (drop (i + 1) ms)) all
            (λ tail. ap (λ l. links_in text pattern l tail) (drop_one_node ms i m d within is)) first.2 second.2,
      )

  pub links_at_last_mention_are_all : (pattern : PatternName) → length ms ≤ i → LeavesLinks now pattern i
      → AddsLinks old now all
  links_at_last_mention_are_all pattern end left = λ before has_edges.
      let first = left before has_edges in (
        first.0,
        first.1,
        nothing_left_means_all_added before first.0 (links_in text pattern (drop i ms)) all
            (λ tail. ap (λ l. links_in text pattern l tail) (drop_all i ms end)) first.2,
      )

-- ---- The files

module _ (files : List NameIndex) (now : ReferenceGraph) (i : ℕ) where
  abbrev pub LeavesLinkFiles : ReferenceGraph → ℕ → Type 0
  LeavesLinkFiles reference_graph n = (list : List Link) × IsReferenceGraph list reference_graph
      × (list ++ links (drop n files) ≡ links files)

  pub links_are_left_after_next_file : (next : ReferenceGraph) (file : NameIndex) → i < length files
      → file ≡ get_or files i file
      → LeavesLinkFiles now i → AddsLinks now next (links_in file.text.now no_pattern file.mentions.items)
      → LeavesLinkFiles next (i + 1)
  links_are_left_after_next_file next file within is left adds_links =
      let cut = drop_one_node files i file file within is in
      let second = adds_links left.0 left.1 in (
        second.0,
        second.1,
        second.2 (links (drop (i + 1) files))
            ∙ ap (λ (l : List NameIndex). left.0 ++ links l) (sym cut)
            ∙ left.2,
      )

  pub links_after_last_file_are_all : length files ≤ i → LeavesLinkFiles now i → IsReferenceGraph (links files) now
  links_after_last_file_are_all end left =
      let same : left.0 ≡ links files =
      sym (append-nil left.0) ∙ ap (λ (l : List NameIndex). left.0 ++ links l) (sym (drop_all i files end)) ∙ left.2 in
      subst (λ (l : List Link). IsReferenceGraph l now) same left.1
