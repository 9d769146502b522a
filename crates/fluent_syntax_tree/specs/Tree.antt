-- Trees as values: a tree over X has an X in place of each text.
use Rattle.std.specs.Prelude.{Bool, List, [], ◌∷◌, Option, Some, None}

-- of a variant
pub data KeyTree (X : Type 0) : Type 0 where
  name_key : X → KeyTree X
  number_key : X → KeyTree X

mutual
  pub data ExpressionTree (X : Type 0) : Type 0 where
    select : InlineTree X → VariantTrees X → ExpressionTree X
    inline : InlineTree X → ExpressionTree X

  pub data InlineTree (X : Type 0) : Type 0 where
    string_literal : X → InlineTree X
    number_literal : X → InlineTree X
    function_reference : X → ArgumentsTree X → InlineTree X
    message_reference : X → Option X → InlineTree X
    term_reference : X → Option X → MaybeArguments X → InlineTree X
    variable_reference : X → InlineTree X
    inline_placeable : ExpressionTree X → InlineTree X

  pub data ArgumentsTree (X : Type 0) : Type 0 where
    arguments : InlineTrees X → NamedTrees X → ArgumentsTree X

  pub data MaybeArguments (X : Type 0) : Type 0 where
    no_arguments : MaybeArguments X
    some_arguments : ArgumentsTree X → MaybeArguments X

  pub data InlineTrees (X : Type 0) : Type 0 where
    no_inlines : InlineTrees X
    inlines : InlineTree X → InlineTrees X → InlineTrees X

  pub data NamedTree (X : Type 0) : Type 0 where
    named_argument : X → InlineTree X → NamedTree X

  pub data NamedTrees (X : Type 0) : Type 0 where
    no_named : NamedTrees X
    nameds : NamedTree X → NamedTrees X → NamedTrees X

  pub data ElementTree (X : Type 0) : Type 0 where
    text_element : X → ElementTree X
    placeable : ExpressionTree X → ElementTree X

  pub data PatternTree (X : Type 0) : Type 0 where
    no_elements : PatternTree X
    elements : ElementTree X → PatternTree X → PatternTree X

  pub data VariantTree (X : Type 0) : Type 0 where
    variant : KeyTree X → PatternTree X → Bool → VariantTree X

  pub data VariantTrees (X : Type 0) : Type 0 where
    no_variants : VariantTrees X
    variants : VariantTree X → VariantTrees X → VariantTrees X

abbrev pub arguments_of : {X : Type 0} → Option (ArgumentsTree X) → MaybeArguments X
arguments_of None = no_arguments
arguments_of (Some a) = some_arguments a

abbrev pub inlines_of : {X : Type 0} → List (InlineTree X) → InlineTrees X
inlines_of [] = no_inlines
inlines_of (x ∷ xs) = inlines x (inlines_of xs)

abbrev pub nameds_of : {X : Type 0} → List (NamedTree X) → NamedTrees X
nameds_of [] = no_named
nameds_of (x ∷ xs) = nameds x (nameds_of xs)

abbrev pub elements_of : {X : Type 0} → List (ElementTree X) → PatternTree X
elements_of [] = no_elements
elements_of (x ∷ xs) = elements x (elements_of xs)

abbrev pub variants_of : {X : Type 0} → List (VariantTree X) → VariantTrees X
variants_of [] = no_variants
variants_of (x ∷ xs) = variants x (variants_of xs)

-- the tree with f of each text in its place
abbrev pub key_map : {X Y : Type 0} → (X → Y) → KeyTree X → KeyTree Y
key_map f (name_key x) = name_key (f x)
key_map f (number_key x) = number_key (f x)

abbrev pub option_texts : {X Y : Type 0} → (X → Y) → Option X → Option Y
option_texts f None = None
option_texts f (Some x) = Some (f x)

abbrev mutual
  pub expression_map : {X Y : Type 0} → (X → Y) → ExpressionTree X → ExpressionTree Y
  expression_map f (select e vs) = select (inline_map f e) (variants_map f vs)
  expression_map f (inline e) = inline (inline_map f e)

  pub inline_map : {X Y : Type 0} → (X → Y) → InlineTree X → InlineTree Y
  inline_map f (string_literal x) = string_literal (f x)
  inline_map f (number_literal x) = number_literal (f x)
  inline_map f (function_reference x a) = function_reference (f x) (arguments_map f a)
  inline_map f (message_reference x a) = message_reference (f x) (option_texts f a)
  inline_map f (term_reference x a c) = term_reference (f x) (option_texts f a) (maybe_map f c)
  inline_map f (variable_reference x) = variable_reference (f x)
  inline_map f (inline_placeable e) = inline_placeable (expression_map f e)

  pub arguments_map : {X Y : Type 0} → (X → Y) → ArgumentsTree X → ArgumentsTree Y
  arguments_map f (arguments ps ns) = arguments (inlines_map f ps) (nameds_map f ns)

  pub maybe_map : {X Y : Type 0} → (X → Y) → MaybeArguments X → MaybeArguments Y
  maybe_map f no_arguments = no_arguments
  maybe_map f (some_arguments a) = some_arguments (arguments_map f a)

  pub inlines_map : {X Y : Type 0} → (X → Y) → InlineTrees X → InlineTrees Y
  inlines_map f no_inlines = no_inlines
  inlines_map f (inlines x xs) = inlines (inline_map f x) (inlines_map f xs)

  pub named_map : {X Y : Type 0} → (X → Y) → NamedTree X → NamedTree Y
  named_map f (named_argument x e) = named_argument (f x) (inline_map f e)

  pub nameds_map : {X Y : Type 0} → (X → Y) → NamedTrees X → NamedTrees Y
  nameds_map f no_named = no_named
  nameds_map f (nameds x xs) = nameds (named_map f x) (nameds_map f xs)

  pub element_map : {X Y : Type 0} → (X → Y) → ElementTree X → ElementTree Y
  element_map f (text_element x) = text_element (f x)
  element_map f (placeable e) = placeable (expression_map f e)

  pub pattern_map : {X Y : Type 0} → (X → Y) → PatternTree X → PatternTree Y
  pattern_map f no_elements = no_elements
  pattern_map f (elements x xs) = elements (element_map f x) (pattern_map f xs)

  pub variant_map : {X Y : Type 0} → (X → Y) → VariantTree X → VariantTree Y
  variant_map f (variant k p d) = variant (key_map f k) (pattern_map f p) d

  pub variants_map : {X Y : Type 0} → (X → Y) → VariantTrees X → VariantTrees Y
  variants_map f no_variants = no_variants
  variants_map f (variants x xs) = variants (variant_map f x) (variants_map f xs)
