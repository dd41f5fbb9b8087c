pub mod Beats
