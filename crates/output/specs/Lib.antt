pub mod Laying
pub mod Leaves
