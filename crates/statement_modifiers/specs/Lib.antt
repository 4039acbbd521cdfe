pub mod ModifierForms
